-- What writing, reading, adding and finding come to. Refusals, with line and field 0, in this order: 11 bytes that are no index, 12 no
-- such exhibit, 5 entries out of range or order, 8 a lent buffer that is too short. A refusal leaves what was lent.
use Rattle.std.specs.Prelude.{◌%◌, ◌+◌, ℕ, ◌&&◌, Bool, [], ◌++◌, ◌∷◌, List, eqb, ltb, drop, get_or, length, take}
use Rattle.frame.specs.declared.Written.{Written}
use Rattle.frame.specs.Written.{refused, wrote}
use Rattle.index.specs.declared.Entry.{Entry}
use Rattle.index.specs.declared.reading.Listed.{Listed}
use Rattle.index.specs.declared.reading.Found.{Found}
use Rattle.index.specs.Index.{entry_bytes, fits, index_bytes, in_order, listed, Listing, no_index, origin, read_index}
use Rattle.digits.specs.Pick.{pick}

-- Entries as numbers, three an entry, and back.
unfoldable pub numbers_of : List Entry → List ℕ
numbers_of [] = []
numbers_of (e ∷ es) = e.number ∷ (e.offset ∷ (e.length ∷ numbers_of es))

unfoldable pub entries_of : List ℕ → List Entry
entries_of (number ∷ (offset ∷ (size ∷ rest))) = record { number = number; offset = offset; length = size } ∷ entries_of rest
entries_of [] = []
entries_of (number ∷ []) = []
entries_of (number ∷ (offset ∷ [])) = []

abbrev pub three_at : List ℕ → ℕ → Entry
three_at numbers i = record { number = get_or numbers i 0; offset = get_or numbers (i + 1) 0; length = get_or numbers (i + 2) 0 }

abbrev pub are_entries : List ℕ → Bool
are_entries numbers = eqb (length numbers % 3) 0 && in_order origin (entries_of numbers)

-- Writing the entries that numbers say.
unfoldable pub written_index : List ℕ → ℕ → Written
written_index numbers room =
    pick (are_entries numbers)
    (pick (ltb room (length (index_bytes (entries_of numbers)))) (refused 8 0 0) (wrote (length (index_bytes (entries_of numbers)))))
    (refused 5 0 0)

unfoldable pub left_index : List ℕ → List ℕ → List ℕ
left_index numbers out =
    pick (eqb (written_index numbers (length out)).no 0)
    (index_bytes (entries_of numbers) ++ drop (length (index_bytes (entries_of numbers))) out)
    out

-- Reading bytes to numbers, into so much room.
abbrev pub listing : ℕ → ℕ → Listed
listing n count = record { no = n; line = 0; field = 0; count = count }

abbrev pub listed_for : Listing → ℕ → Listed
listed_for (listed es) room = pick (ltb room (length (numbers_of es))) (listing 8 0) (listing 0 (length es))
listed_for no_index room = listing 11 0

abbrev pub laid_for : Listing → List ℕ → List ℕ
laid_for (listed es) out = pick (ltb (length out) (length (numbers_of es))) out (numbers_of es ++ drop (length (numbers_of es)) out)
laid_for no_index out = out

abbrev pub entries_in : Listing → List Entry
entries_in (listed es) = es
entries_in no_index = []

-- The last of entries behind the one before them.
unfoldable pub last_of : Entry → List Entry → Entry
last_of before [] = before
last_of before (e ∷ es) = last_of e es

-- Adding an entry at the end of the index in the first bytes of a lent buffer, whose length is the room of the whole index.
abbrev pub added_to : Listing → ℕ → Entry → ℕ → Written
added_to (listed es) used e room =
    pick (fits (last_of origin es) e)
    (pick (ltb room (used + length (entry_bytes (last_of origin es) e)))
    (refused 8 0 0)
    (wrote (used + length (entry_bytes (last_of origin es) e))))
    (refused 5 0 0)
added_to no_index used e room = refused 11 0 0

unfoldable pub added_index : List ℕ → ℕ → Entry → Written
added_index buffer used e = pick (ltb (length buffer) used) (refused 11 0 0) (added_to (read_index (take used buffer)) used e (length buffer))

abbrev pub grown_by : Listing → List ℕ → ℕ → Entry → List ℕ
grown_by (listed es) buffer used e =
    take used buffer ++ (entry_bytes (last_of origin es) e ++ drop (used + length (entry_bytes (last_of origin es) e)) buffer)
grown_by no_index buffer used e = buffer

unfoldable pub left_added : List ℕ → ℕ → Entry → List ℕ
left_added buffer used e = pick (eqb (added_index buffer used e).no 0) (grown_by (read_index (take used buffer)) buffer used e) buffer

-- Finding an exhibit by its number.
abbrev pub finding : ℕ → ℕ → ℕ → Found
finding n offset size = record { no = n; line = 0; field = 0; offset = offset; length = size }

unfoldable pub find_in : ℕ → List Entry → Found
find_in number [] = finding 12 0 0
find_in number (e ∷ es) = pick (eqb e.number number) (finding 0 e.offset e.length) (find_in number es)

-- The entry e, where it has the number and none before it had.
abbrev pub best_of : Found → ℕ → Entry → Found
best_of best number e = pick (eqb best.no 12 && eqb e.number number) (finding 0 e.offset e.length) best

abbrev pub found_in : ℕ → Listing → Found
found_in number (listed es) = find_in number es
found_in number no_index = finding 11 0 0
