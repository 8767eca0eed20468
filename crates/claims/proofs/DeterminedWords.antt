-- Values and fields in words, and lists of exhibits: any two results that a contract permits are equal.
use Prim.Native.Nat.{ℕ}
use mathlib.Core.List.{List}
use lib.IntN.{ℤ}
use Rattle.phrases.specs.Phrases.{measure_text}
use Rattle.words.specs.Words.{kind_text, refusal_text, words_text}
use Rattle.exhibits_lists.specs.declared.Row.{Row}
use Rattle.exhibits_lists.specs.Lists.{asked_of, body_of, number_of, row_of}
use Rattle.claims.proofs.Determined.{One, one}
use Rattle.claims.proofs.DeterminedWriting.{one-put, OnePut}

-- phrases, words
pub put-measure : (d : List ℕ) (at f : ℕ) (numbers : List ℤ) → OnePut d at (measure_text f numbers)
put-measure d at f numbers = one-put d at (measure_text f numbers)

pub put-words : (d : List ℕ) (at kind : ℕ) (numbers : List ℤ) → OnePut d at (words_text kind numbers)
put-words d at kind numbers = one-put d at (words_text kind numbers)

pub put-kind : (d : List ℕ) (at kind : ℕ) → OnePut d at (kind_text kind)
put-kind d at kind = one-put d at (kind_text kind)

pub put-refusal : (d : List ℕ) (at n : ℕ) → OnePut d at (refusal_text n)
put-refusal d at n = one-put d at (refusal_text n)

-- lists
pub parse : (s : List ℕ) → One (number_of s)
parse s = one

pub read-row : (s : List ℕ) → One (row_of (body_of s))
read-row s = one

pub asks : (last above : ℕ) (row : Row) → One (asked_of last above row)
asks last above row = one
