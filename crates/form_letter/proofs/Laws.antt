-- A letter is a lawful form: a status, and a mode.
use Prim.Native.String.{String}
use mathlib.Core.Path.{refl}
use native.Mathlib.Omega.{arith}
use Rattle.digits.specs.Ascii.{ascii}
use Rattle.form.proofs.Clean.{Clean}
use Rattle.form.proofs.FormLaws.{lawful-single, short-single}
use Rattle.form.proofs.Laws.{LawfulForm, ShortForm}
use Rattle.form_letter.specs.Letters.{letter, letter_form, mode, modes, status, statuses}
use Rattle.form_letter.proofs.Back.{clean-letter, clean-mode, clean-status, letter-back, letter-in-set, letter-short}

-- Letters.
pub lawful-letter : (set : String) → Clean (ascii set) → LawfulForm (letter set)
lawful-letter set c =
    lawful-single (letter_form (ascii set)) (λ v. letter-back (ascii set) v c) (λ v e. refl) (λ v e. refl) (letter-in-set (ascii set))
    (λ v. clean-letter (ascii set) v c) (λ v e. omega arith)

pub short-letter : (set : String) → ShortForm (letter set)
short-letter set = short-single (letter_form (ascii set)) (letter-short (ascii set))

pub lawful-status : LawfulForm status
lawful-status = lawful-letter statuses clean-status

pub short-status : ShortForm status
short-status = short-letter statuses

pub lawful-mode : LawfulForm mode
lawful-mode = lawful-letter modes clean-mode

pub short-mode : ShortForm mode
short-mode = short-letter modes
