-- Values that stand exactly where another does, and values that are never missing, are lawful.
use Prim.Native.Nat.{ℕ}
use mathlib.Core.Bool.{Bool, false, true}
use mathlib.Core.Path.{◌∙◌, ◌≡◌, ap, refl, subst, sym}
use Rattle.form.specs.Forms.{filled, needed, present}
use Rattle.form.specs.Row.{Form}
use Rattle.form.specs.Values.{alike_wrong, kept_if, kept_of, needed_wrong, no_maybe}
use Rattle.form.specs.declared.Maybe.{Maybe}
use Rattle.form.specs.declared.got.Got.{Got}
use Rattle.form.proofs.Alike.{alike-parts, Held, needed-parts}
use Rattle.form.proofs.Laws.{LawfulForm}

needed-good : (key : Bool) (g : Got) → g.wrong ≡ 0 → key ≡ g.there → needed_wrong key g ≡ 0
needed-good key g e q = rw (e, q) (go g.there)
  where
    go : (t : Bool) → needed_wrong t (record { wrong = 0; there = t; value = g.value }) ≡ 0
    go true = refl
    go false = refl

-- A value that may be missing, by a form that keeps it as it was read.
module _ (f : Form Got Maybe) (l : LawfulForm f) (plain : (g : Got) → f.wrong g ≡ g.wrong)
    (kept : (g : Got) → f.value g ≡ kept_of g) where
  -- Where it is never missing.
  pub lawful-filled : LawfulForm (filled f)
  lawful-filled =
      record {
        back = λ v e field b.
            let x = l.back (present v) e field b in
            let g = f.got field in
            let k : kept_of g ≡ present v = sym (kept g) ∙ x.1 in
            (needed-good true g (sym (plain g) ∙ x.0) (sym (ap (λ (m : Maybe). m.there) k)), ap (λ (m : Maybe). m.value) k);
        sound = λ field e.
            let g = f.got field in
            let z = needed-parts true g e in
            let s = subst (λ (m : Maybe). f.fault m ≡ 0) (kept g) (l.sound field (plain g ∙ z.0)) in
            subst (λ (t : Bool). f.fault (record { there = t; value = g.value }) ≡ 0) (z.1 refl) s;
        count = λ v. l.count (present v);
        clean = λ v. l.clean (present v);
        long = λ v. l.long (present v);
      }

  -- Where it stands exactly where another does: a missing one is in range, and zero.
  module _ (blank : f.fault no_maybe ≡ 0) (zeroed : (m : Maybe) → f.fault m ≡ 0 → Held m) where
    kept-good : (key : Bool) (m : Maybe) (g : Got) → kept_of g ≡ m → key ≡ m.there → Held m → kept_if key g ≡ m
    kept-good true m g e q h = e
    kept-good false m g e q h =
        ap (λ (v : ℕ). record { there = false; value = v }) (sym (h (sym q))) ∙ ap (λ (t : Bool). record { there = t; value = m.value }) q

    sounded : (key : Bool) (g : Got) → (key ≡ true → g.there ≡ true) → f.fault (f.value g) ≡ 0
        → alike_wrong key (kept_if key g).there (f.fault (kept_if key g)) ≡ 0
    unfolding alike_wrong
    sounded true g h e =
        ap (λ (t : Bool). alike_wrong true t (f.fault (kept_of g))) (h refl) ∙ subst (λ (m : Maybe). f.fault m ≡ 0) (kept g) e
    sounded false g h e = blank

    pub lawful-needed : (key : Bool) → LawfulForm (needed f key)
    lawful-needed key =
        record {
          back = λ m e field b.
              let z = alike-parts key m.there (f.fault m) e in
              let x = l.back m z.1 field b in
              let g = f.got field in
              let k : kept_of g ≡ m = sym (kept g) ∙ x.1 in
              let there = z.0 ∙ sym (ap (λ (v : Maybe). v.there) k) in
              (needed-good key g (sym (plain g) ∙ x.0) there, kept-good key m g k z.0 (zeroed m z.1));
          sound = λ field e.
              let g = f.got field in
              let z = needed-parts key g e in
              sounded key g z.1 (l.sound field (plain g ∙ z.0));
          count = l.count;
          clean = λ m e. l.clean m (alike-parts key m.there (f.fault m) e).1;
          long = λ m e. l.long m (alike-parts key m.there (f.fault m) e).1;
        }
