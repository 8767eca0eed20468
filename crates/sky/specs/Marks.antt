-- The bytes in which a group's reader and writer mark the satellite numbers that it has had. Nothing here is needed to know what a group
-- is.
use Rattle.std.specs.Prelude.{◌<◌, ℕ, ◌≡◌, List, ◌&&◌, Bool, cond, true, eqb, get_or, length, set}
use Rattle.digits.specs.Pick.{pick}
use Rattle.kind_gsv.specs.declared.Entry.{Entry}
use Rattle.sky.specs.Group.{numbered}

-- 1 where a number is among the entries.
abbrev pub Marks : List Entry → List ℕ → Type 0
Marks es seen = (n : ℕ) → n < length seen → get_or seen n 0 ≡ cond (numbered n es) 1 0

abbrev pub HasMark : Bool → ℕ → List ℕ → Type 0
HasMark used n seen = used ≡ true → n < length seen

abbrev pub had_if : Bool → ℕ → List ℕ → Bool
had_if used n seen = used && eqb (get_or seen n 0) 1

abbrev pub marked_if : Bool → ℕ → List ℕ → List ℕ
marked_if used n seen = pick used (set seen n 1) seen
