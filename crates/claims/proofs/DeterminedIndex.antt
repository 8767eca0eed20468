-- The index and the functions that a host calls for it: any two results that a contract permits are equal.
use Prim.Native.Nat.{ℕ}
use mathlib.Core.List.{List}
use lib.ListN.{drop, length}
use Rattle.index_sevens.specs.Sevens.{sevens, take_sevens}
use Rattle.index_sevens.specs.Places.{taken_at}
use Rattle.index.specs.declared.Entry.{Entry}
use Rattle.index.specs.Index.{entry_bytes, entry_of, fits, origin, read_index}
use Rattle.index.specs.Answers.{added_index, found_in, laid_for, left_added, left_index, listed_for, written_index}
use Rattle.index.specs.Places.{next_at, scan_of}
use Rattle.host.specs.Answer.{set_at}
use Rattle.host.specs.Index.{entry_with}
use Rattle.claims.proofs.Determined.{One, one}
use Rattle.claims.proofs.DeterminedWriting.{one-put, OnePut}

-- sevens
pub sevens-size : (v : ℕ) → One (length (sevens v))
sevens-size v = one

pub sevens-put : (d : List ℕ) (at : ℕ) (v : ℕ) → OnePut d at (sevens v)
sevens-put d at v = one-put d at (sevens v)

pub sevens-take : (s : List ℕ) (at : ℕ) → One (taken_at (length s) (take_sevens (drop at s)))
sevens-take s at = one

-- index
pub index-origin : One origin
index-origin = one

pub index-fits : (last e : Entry) → One (fits last e)
index-fits last e = one

pub index-put-entry : (d : List ℕ) (at : ℕ) (last e : Entry) → OnePut d at (entry_bytes last e)
index-put-entry d at last e = one-put d at (entry_bytes last e)

pub index-entry-at : (s : List ℕ) (at : ℕ) (last : Entry) → One (next_at (length s) (entry_of last (drop at s)))
index-entry-at s at last = one

pub index-scan : (s : List ℕ) → One (scan_of (read_index s))
index-scan s = one

pub index-write : (numbers out : List ℕ) → One (written_index numbers (length out)) × One (left_index numbers out)
index-write numbers out = (one, one)

pub index_read : (s out : List ℕ) → One (listed_for (read_index s) (length out)) × One (laid_for (read_index s) out)
index_read s out = (one, one)

pub index-add : (buffer : List ℕ) (used : ℕ) (e : Entry) → One (added_index buffer used e) × One (left_added buffer used e)
index-add buffer used e = (one, one)

pub index-find : (s : List ℕ) (number : ℕ) → One (found_in number (read_index s))
index-find s number = one

-- host: each hands on the answer of one definition, its struct taken apart into lent numbers.
pub host-index-write : (numbers out : List ℕ) (stood : ℕ)
    → One (written_index numbers (length out)).no × One
    (set_at (written_index numbers (length out)).no (written_index numbers (length out)).length stood)
    × One (written_index numbers (length out)).line × One (written_index numbers (length out)).field × One (left_index numbers out)
host-index-write numbers out stood = (one, one, one, one, one)

pub host-index-read : (s out : List ℕ) (stood : ℕ)
    → One (listed_for (read_index s) (length out)).no
    × One (set_at (listed_for (read_index s) (length out)).no (listed_for (read_index s) (length out)).count stood)
    × One (listed_for (read_index s) (length out)).line × One (listed_for (read_index s) (length out)).field × One (laid_for (read_index s) out)
host-index-read s out stood = (one, one, one, one, one)

pub host-index-add : (buffer : List ℕ) (used number offset size stood : ℕ)
    → One (added_index buffer used (entry_with number offset size)).no
    × One (set_at (added_index buffer used (entry_with number offset size)).no
    (added_index buffer used (entry_with number offset size)).length stood)
    × One (added_index buffer used (entry_with number offset size)).line × One (added_index buffer used (entry_with number offset size)).field
    × One (left_added buffer used (entry_with number offset size))
host-index-add buffer used number offset size stood = (one, one, one, one, one)

pub host-index-find : (s : List ℕ) (number stood size : ℕ)
    → One (found_in number (read_index s)).no × One (set_at (found_in number (read_index s)).no (found_in number (read_index s)).offset stood)
    × One (set_at (found_in number (read_index s)).no (found_in number (read_index s)).length size)
    × One (found_in number (read_index s)).line × One (found_in number (read_index s)).field
host-index-find s number stood size = (one, one, one, one, one)
