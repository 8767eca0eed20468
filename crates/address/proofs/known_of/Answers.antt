-- `known_of` meets its contract: a talker is followed by its type, anything else is the maker's.
use Prim.Native.Nat.{ℕ}
use mathlib.Core.Path.{◌≡◌, ap, ◌∙◌}
use mathlib.Core.List.{List}
use native.Mathlib.Omega.{arith}
use lib.ListN.{length, take, drop, length-drop}
use lib.Seq.{take_all}
use Rattle.std.proofs.Common.{Option, Some, None}
use Rattle.address.specs.declared.Talker.{Talker}
use Rattle.address.specs.Address.{known_of, kind_of, maker, pir_of, standard, talked, talker_of}
use Rattle.address.proofs.known_of.Goals as goal

-- a talker that was found, with the type after it; and none
talks : (a : List ℕ) (t : Talker) → length a ≡ 5 → Some t ≡ talker_of (take 2 a) → standard t (kind_of (take 3 (drop 2 a))) ≡ known_of a
unfolding known_of
talks a t h e = rw (take_all 3 (drop 2 a) (simp length-drop (omega arith))) (ap (λ (o : Option Talker). talked o a) e)

tells : (a : List ℕ) → None ≡ talker_of (take 2 a) → maker (pir_of a) ≡ known_of a
unfolding known_of
tells a e = ap (λ (o : Option Talker). talked o a) e

pub returns-in-Some-kind_of : goal.returns-in-Some-kind_of
returns-in-Some-kind_of c = ap (standard _) c.in-Some-kind_of.ensures ∙ talks _ _ c.requires c.in-Some.ensures

pub returns-in-None-kind_of : goal.returns-in-None-kind_of
returns-in-None-kind_of c = ap (standard _) c.in-None-kind_of.ensures ∙ talks _ _ c.requires c.in-Some.ensures

pub returns-in-Some-pir_of : goal.returns-in-Some-pir_of
returns-in-Some-pir_of c = ap maker c.in-Some-pir_of.ensures ∙ tells _ c.in-None.ensures

pub returns-in-None-pir_of : goal.returns-in-None-pir_of
returns-in-None-pir_of c = ap maker c.in-None-pir_of.ensures ∙ tells _ c.in-None.ensures
