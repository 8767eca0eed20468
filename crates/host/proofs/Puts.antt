-- Numbers written as a group, by the tests of their definition in order; those of a table are written as the table is, since they say it.
use Prim.Native.Nat.{◌<◌, ◌≤◌, ℕ}
use mathlib.Core.Path.{◌∙◌, ◌≡◌, ap, refl, sym}
use mathlib.Core.List.{◌++◌, List}
use mathlib.Core.Bool.{false, true}
use native.Mathlib.Omega.{arith}
use borrow.Author.Tests.{le-ltb, lt-ltb}
use lib.Dec.{ltb}
use lib.IntN.{ℤ}
use lib.ListN.{drop, length, length-append}
use Rattle.address.specs.declared.Talker.{Talker}
use Rattle.address.specs.declared.Talker.TheVariants as T
use Rattle.frame.specs.declared.Written.{Written}
use Rattle.frame.specs.Written.{refused}
use Rattle.sky.specs.declared.Table.{Table}
use Rattle.sky.specs.Table.{WritesGroup}
use Rattle.numbers.specs.Numbers.{laid, talker_number, talker_of}
use Rattle.numbers.specs.Layout.{standard_numbers, whole}
use Rattle.numbers.proofs.Fitting.{whole_back}
use Rattle.numbers.proofs.Laying.{laid-is}
use Rattle.numbers.proofs.Values.{talker-held}
use Rattle.sky_numbers.specs.Numbers.{sky_numbers, table_at, table_layout}
use Rattle.sky_numbers.proofs.Laying.{sky-long}
use Rattle.sky_numbers.proofs.Back.{laid-back}
use Rattle.host.specs.Group.{group_put, Put, table_put}

module _ (n : List ℤ) (out : List ℕ) where
  abbrev Puts : Written → List ℕ → Type 0
  Puts w left = (w ≡ (group_put n out).answer) × (left ≡ (group_put n out).out)

  pub short : length n < 254 → {w : Written} → w ≡ refused 5 0 0 → Puts w out
  unfolding group_put
  short h q = let e = lt-ltb (length n) 254 h in (q ∙ rw e, rw e)

  module _ (h : 254 ≤ length n) {k : ℕ} (at : k ≡ whole.at n 0) where
    pub unknown : 4 < k → {w : Written} → w ≡ refused 3 0 0 → Puts w out
    unfolding group_put
    unknown i q =
        let e = le-ltb (length n) 254 h in
        let f : ltb 4 (whole.at n 0) ≡ true = ap (ltb 4) (sym at) ∙ lt-ltb 4 k i in
        (q ∙ rw (e, f), rw (e, f))

    module _ (i : k ≤ 4) {t : Talker} (p : t ≡ talker_of k) {r : Table} (q : r ≡ table_at n) where
      pub put : table_put t r out ≡ group_put n out
      unfolding group_put
      put =
          let e = le-ltb (length n) 254 h in
          let f : ltb 4 (whole.at n 0) ≡ false = ap (ltb 4) (sym at) ∙ le-ltb 4 k i in
          rw (p, q, at, e, f)

      pub table : {w : Written} {left : List ℕ} → WritesGroup t r out w left → Puts w left
      table g = (g.answers ∙ ap (λ (x : Put). x.answer) put, g.leaves ∙ ap (λ (x : Put). x.out) put)

known : (t : Talker) → talker_number t ≤ 4
known T.Gp = omega arith
known T.Gl = omega arith
known T.Ga = omega arith
known T.Gq = omega arith
known T.Gn = omega arith

module _ (t : Talker) (r : Table) (full : length r.entries ≡ 36) (held : table_layout.held r ≡ true) where
  module _ (numbers : List ℤ) (h : 254 ≤ length numbers) where
    long : length (sky_numbers t r) ≡ 254
    long = sky-long t r full

    stands : laid (sky_numbers t r) numbers ≡ sky_numbers t r ++ drop (length (sky_numbers t r)) numbers
    stands = laid-is (sky_numbers t r) numbers (omega (arith, long, h))

    enough : 254 ≤ length (laid (sky_numbers t r) numbers)
    enough = rw stands (omega (arith, long, length-append (sky_numbers t r) (drop (length (sky_numbers t r)) numbers)))

    first : whole.at (laid (sky_numbers t r) numbers) 0 ≡ talker_number t
    unfolding standard_numbers
    first = ap (λ (l : List ℤ). whole.at l 0) stands ∙ whole_back (talker_number t) (talker-held t)

    pub put_back : (out : List ℕ) → group_put (laid (sky_numbers t r) numbers) out ≡ table_put t r out
    put_back out =
        let back = laid-back t r full held numbers h in
        let few : whole.at (laid (sky_numbers t r) numbers) 0 ≤ 4 = omega (arith, first, known t) in
        sym (put (laid (sky_numbers t r) numbers) out enough refl few (sym back.0) (sym back.1))
