-- A group read to numbers and written from them is the same bytes: what was read is in range, so 32 bits hold it, and the numbers say it
-- again.
use Prim.Native.Nat.{◌-◌, ◌≤◌, suc, zero, ℕ}
use mathlib.Core.Path.{◌∙◌, ◌≡◌, ap, refl}
use mathlib.Core.Bool.{true}
use mathlib.Core.List.{[], ◌++◌, ◌∷◌, List}
use native.Mathlib.Omega.{arith}
use borrow.Author.Tests.{eq-eqb, le-leb}
use lib.Dec.{lit≤}
use lib.IntN.{ℤ}
use lib.ListN.{length, replicate, take}
use Rattle.address.specs.declared.Talker.{Talker}
use Rattle.form.proofs.Zeros.{all-zero}
use Rattle.frame.specs.Written.{wrote}
use Rattle.kind_gsv.specs.Blank.{blank_entry}
use Rattle.kind_gsv.specs.Row.{entry_layout}
use Rattle.kind_gsv.specs.Writing.{entry_afters}
use Rattle.kind_gsv.specs.declared.Entry.{Entry}
use Rattle.numbers.specs.Layout.{list_held}
use Rattle.numbers.specs.Numbers.{most}
use Rattle.sentence_laws.proofs.Fitted.{both, outside-held, range-held}
use Rattle.sky.specs.Group as G
use Rattle.sky.specs.Group.{group_of}
use Rattle.sky.specs.Sky.{table_of}
use Rattle.sky.specs.Table.{entry_wrong, left_group, written_group}
use Rattle.sky_laws.proofs.InRange.{EachGood, InRange, table-places}
use Rattle.sky_laws.proofs.WriteRead as WriteRead
use Rattle.sky_numbers.specs.Numbers.{table_layout}
use Rattle.host.specs.Group.{group_put, handed, Put}
use Rattle.host.proofs.Puts.{put_back}
use Rattle.claims.proofs.Skies.{group-same-bytes}

entry-held : (e : Entry) → entry_wrong e ≡ 0 → entry_layout.held e ≡ true
unfolding entry_wrong
entry-held e w =
    let z = all-zero (entry_afters true 0 e) w in
    both (outside-held 1 99 e.number (lit≤ tt) z.0)
    (both (range-held 0 90 e.elevation.there e.elevation.value (lit≤ tt) z.1.0)
    (both (range-held 0 359 e.azimuth.there e.azimuth.value (lit≤ tt) z.1.1.0)
    (range-held 0 99 e.signal.there e.signal.value (lit≤ tt) z.1.1.1.0)))

each-held : (es : List Entry) → EachGood es → (k : ℕ) → list_held entry_layout (es ++ replicate k blank_entry) ≡ true
each-held [] g zero = refl
each-held [] g (suc k) = each-held [] g k
each-held (e ∷ es) g k = both (entry-held e g.0) (each-held es g.1 k)

table-held : (es : List Entry) → InRange es → table_layout.held (table_of es) ≡ true
unfolding table_layout
table-held es r =
    both (le-leb (length es) most (omega (arith, r.few)))
    (both (eq-eqb (length (table_of es).entries) 36 (table-places es r)) (each-held es r.each (36 - length es)))

-- Into an output with room for it.
pub group-again : (g : List ℕ) (t : Talker) (es : List Entry) → group_of g ≡ G.whole t es → (numbers : List ℤ) → 254 ≤ length numbers
    → (out : List ℕ) → length g ≤ length out
    → ((group_put (handed (group_of g) numbers).numbers out).answer ≡ wrote (length g))
    × (take (length g) (group_put (handed (group_of g) numbers).numbers out).out ≡ g)
group-again g t es e numbers h out room =
    let r = (WriteRead.told g t es e).0 in
    let put = ap (λ (a : G.Answer). group_put (handed a numbers).numbers out) e
    ∙ put_back t (table_of es) (table-places es r) (table-held es r) numbers h out in
    let same = group-same-bytes g t es e {out = out} {answer = written_group t (table_of es) (length out)}
    {left = left_group t (table_of es) out} room (record { answers = refl; leaves = refl }) in
    (ap (λ (x : Put). x.answer) put ∙ same.0, ap (λ (x : Put). take (length g) x.out) put ∙ same.1)
