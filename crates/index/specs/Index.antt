-- The index beside a log. Each entry is an exhibit number, the byte offset of its line and the line's length. Stored are the gap in number
-- from the entry before (at least 1; the first from 0), the gap from the end of the line before to this start (at least 0), and the
-- length (7 to 82), each in groups of seven bits. Numbers and end offsets stay within 4294967295.
use Rattle.std.specs.Prelude.{◌+◌, ◌-◌, suc, zero, ℕ, ◌&&◌, Bool, true, [], ◌++◌, ◌∷◌, List, leb, ltb, length}
use Rattle.digits.specs.Pick.{pick}
use Rattle.index_sevens.specs.Sevens as S
use Rattle.index_sevens.specs.Sevens.{most, sevens, take_sevens, Took}
use Rattle.index.specs.declared.Entry.{Entry}

-- What stands before the first entry.
abbrev pub origin : Entry
origin = record { number = 0; offset = 0; length = 0 }

abbrev pub end_of : Entry → ℕ
end_of e = e.offset + e.length

-- An entry in range and in order behind the entry before it.
unfoldable pub fits : Entry → Entry → Bool
fits before e =
    ltb before.number e.number
    && (leb e.number most
    && (leb (end_of before) e.offset
    && (leb 7 e.length
    && (leb e.length 82
    && leb (end_of e) most))))

unfoldable pub in_order : Entry → List Entry → Bool
in_order before [] = true
in_order before (e ∷ es) = fits before e && in_order e es

-- The bytes of an entry behind the one before it, and of entries one behind the other.
unfoldable pub entry_bytes : Entry → Entry → List ℕ
entry_bytes before e = sevens (e.number - before.number) ++ (sevens (e.offset - end_of before) ++ sevens e.length)

unfoldable pub bytes_from : Entry → List Entry → List ℕ
bytes_from before [] = []
bytes_from before (e ∷ es) = entry_bytes before e ++ bytes_from e es

abbrev pub index_bytes : List Entry → List ℕ
index_bytes es = bytes_from origin es

-- What bytes begin with: an entry, with the bytes behind it; an entry whose bytes end too soon; or no entry.
pub data Head : Type 0 where
  entry : Entry → List ℕ → Head
  short : Head
  bad : Head

abbrev pub then_took : Took → (ℕ → List ℕ → Head) → Head
then_took (S.value v rest) go = go v rest
then_took S.short go = short
then_took S.bad go = bad

abbrev pub entry_behind : Entry → ℕ → ℕ → ℕ → Entry
entry_behind before gap skip size = record { number = before.number + gap; offset = end_of before + skip; length = size }

-- Three numbers, the gaps and the length, that make an entry which fits; from the last to the first.
unfoldable pub length_of : Entry → ℕ → ℕ → List ℕ → Head
length_of before gap skip s =
    then_took (take_sevens s) λ size rest. pick (fits before (entry_behind before gap skip size))
    (entry (entry_behind before gap skip size) rest) bad

unfoldable pub skip_of : Entry → ℕ → List ℕ → Head
skip_of before gap s = then_took (take_sevens s) λ skip rest. length_of before gap skip rest

unfoldable pub entry_of : Entry → List ℕ → Head
entry_of before s = then_took (take_sevens s) λ gap rest. skip_of before gap rest

-- What bytes read as: entries, or no index.
pub data Listing : Type 0 where
  listed : List Entry → Listing
  no_index : Listing

abbrev pub onto : Entry → Listing → Listing
onto e (listed es) = listed (e ∷ es)
onto e no_index = no_index

abbrev pub then_head : Head → (Entry → List ℕ → Listing) → Listing
then_head (entry e rest) go = go e rest
then_head short go = no_index
then_head bad go = no_index

-- Entries one behind the other, up to the end of the bytes. No bytes are the index of no entries. Every entry has bytes, so that
-- one turn more than there are bytes is enough.
unfoldable pub turns_from : ℕ → Entry → List ℕ → Listing
turns_from zero before s = no_index
turns_from (suc n) before [] = listed []
turns_from (suc n) before (b ∷ s) = then_head (entry_of before (b ∷ s)) λ e rest. onto e (turns_from n e rest)

unfoldable pub read_from : Entry → List ℕ → Listing
read_from before s = turns_from (suc (length s)) before s

abbrev pub read_index : List ℕ → Listing
read_index s = read_from origin s
