-- A form that is like a row: its fields read, are wrong and are written as the row's are, though it holds what was read in its own way.
-- The laws of the row are its laws.
use Prim.Native.Nat.{◌≤◌, suc, ℕ}
use mathlib.Core.List.{[], List}
use mathlib.Core.Path.{◌∙◌, ◌≡◌, ap, subst, sym}
use native.Mathlib.Nat.{add-zero, zero-add}
use native.Mathlib.Omega.{arith}
use lib.ListN.{get_or, length}
use Rattle.form.specs.Row.{Form, Row}
use Rattle.form.proofs.Clean.{Clean, CleanAll}
use Rattle.form.proofs.CleanTexts.{total}
use Rattle.form.proofs.Laws.{Lawful, LawfulForm}
use Rattle.form.proofs.PlaceLaws.{after, Agree, Completed, named, named_at, Prefix, PrefixForm}
use Rattle.form.proofs.SameLaws.{Same, SameForm}

pub record Like {G H X : Type 0} (f : Form H X) (r : Row G X) (fold : G → H) : Type 0 where
  pub wide : f.width ≡ r.width
  pub large : r.most ≤ f.most
  pub reads : (field : ℕ → List ℕ) → f.got field ≡ fold (r.got field 0)
  pub names : (field : ℕ → List ℕ) → named f field ≡ named_at r 0 field
  pub holds : (field : ℕ → List ℕ) → named f field ≡ 0 → f.value (f.got field) ≡ r.value (r.got field 0)
  pub faults : (v : X) → f.fault v ≡ r.fault v 0 0
  pub texts : (v : X) → f.text v ≡ r.text v []

module _ {G H X : Type 0} {f : Form H X} {r : Row G X} {fold : G → H} (l : Like f r fold) where
  text_at : (v : X) (k : ℕ) → get_or (f.text v) k [] ≡ get_or (r.text v []) k []
  text_at v k = ap (λ (t : List (List ℕ)). get_or t k []) (l.texts v)

  pub lawful-like : Lawful r → LawfulForm f
  lawful-like p =
      record {
        back = λ v e field b.
            let x = p.back v (sym (l.faults v) ∙ e) field 0 [] (λ k h. b k (omega (arith, l.wide)) ∙ text_at v k) in
            let good = l.names field ∙ x.0 in
            (good, l.holds field good ∙ x.1);
        sound = λ field e.
            let s = p.sound field 0 (sym (l.names field) ∙ e) in
            subst (λ (v : X). f.fault v ≡ 0) (sym (l.holds field e)) (l.faults _ ∙ s);
        count = λ v. ap length (l.texts v) ∙ p.count v [] ∙ add-zero r.width ∙ sym l.wide;
        clean = λ v e. subst CleanAll (sym (l.texts v)) (p.clean v [] (sym (l.faults v) ∙ e) tt);
        long = λ v e. omega (arith, ap total (l.texts v), p.long v [] (sym (l.faults v) ∙ e), l.large);
      }

  pub same-like : Same r → SameForm f
  same-like p =
      record {
        same = λ field e k h.
            let t = ap f.text (l.holds field e) ∙ l.texts (r.value (r.got field 0)) in
            p.same field 0 [] (sym (l.names field) ∙ e) k (omega (arith, l.wide, h)) ∙ sym (ap (λ (x : List (List ℕ)). get_or x k []) t);
      }

  -- The same places, counted as the row counts them.
  agree : (field other : ℕ → List ℕ) (w : ℕ) → Agree field other suc w → Agree field other (after 0) w
  agree field other w s j i = ap other (zero-add (suc j)) ∙ s j i ∙ sym (ap field (zero-add (suc j)))

  completed : (field : ℕ → List ℕ) (k : ℕ) → Completed (named_at r 0) field (after 0) r.width k
      → Completed (named f) field suc f.width k
  completed field k c =
      record {
        other = c.other;
        before = λ j h. sym (ap c.other (zero-add (suc j))) ∙ c.before j h ∙ ap field (zero-add (suc j));
        clean = λ j h i. subst Clean (ap c.other (zero-add (suc j))) (c.clean j (omega (arith, l.wide)) i);
        accepted = l.names c.other ∙ c.accepted;
      }

  pub prefix-like : Prefix r → PrefixForm f
  prefix-like p =
      record {
        own = λ field other s.
            let a = agree field other r.width (λ j i. s j (omega (arith, l.wide))) in
            l.reads other ∙ ap fold (p.own field other 0 a) ∙ sym (l.reads field);
        within = λ field. omega (arith, l.names field, p.within field 0, l.wide);
        stays = λ field other h s.
            let e = l.names field in
            let a = agree field other (named_at r 0 field) (λ j i. s j (omega (arith, e))) in
            l.names other ∙ p.stays field other 0 (omega (arith, e)) a ∙ sym e;
        completed = λ field h u.
            let e = l.names field in
            subst (Completed (named f) field suc f.width) (sym e) (completed field _ (p.completed field 0 (omega (arith, e)) tt));
        fresh = λ field. completed field 1 (p.fresh field 0);
      }
