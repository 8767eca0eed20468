-- An entry at a place of n bytes, by the place behind it; what going over an index once gives; and, for the loops over entries of three
-- bytes, what holds at a place of an index or of the numbers to write, and between two places.
use Rattle.std.specs.Prelude.{◌%◌, ◌*◌, ◌+◌, ◌-◌, ◌<◌, ◌≤◌, ℕ, ◌≡◌, List, false, true, drop, get_or, length}
use Rattle.index_sevens.specs.Sevens.{most}
use Rattle.put.specs.Wrote.{held, wrote}
use Rattle.index.specs.declared.Entry.{Entry}
use Rattle.index.specs.declared.Next.{Next}
use Rattle.index.specs.declared.Next.TheVariants as N
use Rattle.index.specs.declared.reading.Scanned.{Scanned}
use Rattle.index.specs.declared.reading.Found.{Found}
use Rattle.index.specs.declared.reading.Place.{Place}
use Rattle.index.specs.declared.reading.Laid.{Laid}
use Rattle.index.specs.declared.writing.Reached.{Reached}
use Rattle.index.specs.Index.{bad, bytes_from, end_of, entry, Head, index_bytes, in_order, listed, Listing, no_index, origin, read_from}
use Rattle.index.specs.Index.{read_index, short}
use Rattle.index.specs.Answers.{entries_in, entries_of, found_in, last_of, numbers_of}

abbrev pub next_at : ℕ → Head → Next
next_at n (entry e rest) = N.Is e (n - length rest)
next_at n short = N.Short
next_at n bad = N.Bad

-- Three bytes from a place on that are a number each.
pub record Near (s : List ℕ) (at : ℕ) : Type 0 where
  pub inside : at + 3 ≤ length s
  pub first : get_or s at 0 < 128
  pub second : get_or s (at + 1) 0 < 128
  pub third : get_or s (at + 2) 0 < 128

abbrev pub whole_with : ℕ → Entry → Scanned
whole_with count last = record { whole = true; count = count; last = last }

abbrev pub scan_of : Listing → Scanned
scan_of (listed es) = record { whole = true; count = length es; last = last_of origin es }
scan_of no_index = record { whole = false; count = 0; last = origin }

pub record Walks (s : List ℕ) (number : ℕ) (scanned : Scanned) (best : Found) : Type 0 where
  pub goes : scanned ≡ scan_of (read_index s)
  pub finds : scanned.whole ≡ true → best ≡ found_in number (read_index s)

-- A place behind an entry with a number and an end, all low enough that a sum of two does not wrap.
pub record Low (n at number end : ℕ) : Type 0 where
  pub inside : at ≤ n
  pub numbered : number ≤ most
  pub ends : end ≤ most

-- Three bytes that are an entry which fits, and whose number is not the one wanted.
pub record Quick (s : List ℕ) (at number end wanted : ℕ) : Type 0 where
  pub inside : at + 3 ≤ length s
  pub some : 0 < get_or s at 0
  pub first : get_or s at 0 < 128
  pub second : get_or s (at + 1) 0 < 128
  pub least : 7 ≤ get_or s (at + 2) 0
  pub longest : get_or s (at + 2) 0 ≤ 82
  pub other : number + get_or s at 0 ≡ wanted → ⊥
  pub numbered : number + get_or s at 0 ≤ most
  pub ends : end + get_or s (at + 1) 0 + get_or s (at + 2) 0 ≤ most

-- How many entries, and the last of them, behind those before.
abbrev pub scan_on : ℕ → Entry → Listing → Scanned
scan_on count last (listed es) = record { whole = true; count = count + length es; last = last_of last es }
scan_on count last no_index = scan_of no_index

-- A place that going on can start from.
pub record Starts (n : ℕ) (p : Place) : Type 0 where
  pub low : Low n p.at p.last.number (end_of p.last)
  pub few : p.count ≤ p.at

-- From a place to another: what the bytes from either on come to is the same.
pub record Passes (s : List ℕ) (wanted : ℕ) (p q : Place) : Type 0 where
  pub on : p.at ≤ q.at
  pub inside : q.at ≤ length s
  pub few : q.count ≤ q.at
  pub counts : scan_on p.count p.last (read_from p.last (drop p.at s)) ≡
      scan_on q.count q.last (read_from q.last (drop q.at s))
  pub finds : found_in wanted (read_from p.last (drop p.at s)) ≡ found_in wanted (read_from q.last (drop q.at s))

-- What is known of an entry by those behind it: its number, and the end of its line.
abbrev pub tip : ℕ → ℕ → Entry
tip number end = record { number = number; offset = end; length = 0 }

abbrev pub laid_at : ℕ → ℕ → ℕ → ℕ → Laid
laid_at at number end place = record { at = at; number = number; end = end; place = place }

-- The entries from a place on, whose numbers are still to be laid: they read, and there is room.
abbrev pub unlaid : List ℕ → Laid → List Entry
unlaid s p = entries_in (read_from (tip p.number p.end) (drop p.at s))

pub record Lays (s out : List ℕ) (p : Laid) : Type 0 where
  pub inside : p.at ≤ length s
  pub whole : read_from (tip p.number p.end) (drop p.at s) ≡ listed (unlaid s p)
  pub room : p.place + length (numbers_of (unlaid s p)) ≤ length out

-- From a place to another: the numbers left, laid behind those that are, are the same.
pub record LaysOn (s out : List ℕ) (p : Laid) (left : List ℕ) (q : Laid) : Type 0 where
  pub on : p.at ≤ q.at
  pub lays : Lays s left q
  pub stores : wrote (held q.place left) (numbers_of (unlaid s q)) ≡ wrote (held p.place out) (numbers_of (unlaid s p))

-- Three numbers that are an entry which fits, and takes three bytes.
pub record Small (ns : List ℕ) (i number end : ℕ) : Type 0 where
  pub inside : i + 3 ≤ length ns
  pub later : number < get_or ns i 0
  pub gap : get_or ns i 0 ≤ number + 127
  pub behind : end ≤ get_or ns (i + 1) 0
  pub skip : get_or ns (i + 1) 0 ≤ end + 127
  pub least : 7 ≤ get_or ns (i + 2) 0
  pub longest : get_or ns (i + 2) 0 ≤ 82
  pub numbered : get_or ns i 0 ≤ most
  pub ends : get_or ns (i + 1) 0 + get_or ns (i + 2) 0 ≤ most

abbrev pub reached_at : ℕ → ℕ → ℕ → ℕ → Reached
reached_at at number end used = record { at = at; number = number; end = end; used = used }

-- The entries from a place on, and their bytes.
abbrev pub unwritten : List ℕ → Reached → List Entry
unwritten ns p = entries_of (drop p.at ns)

abbrev pub bytes_left : List ℕ → Reached → List ℕ
bytes_left ns p = bytes_from (tip p.number p.end) (unwritten ns p)

-- The order of the rest is the order of all; the bytes counted so far and those of the rest are all of them.
pub record Planning (ns : List ℕ) (p : Reached) : Type 0 where
  pub low : Low (length ns) p.at p.number p.end
  pub order : in_order origin (entries_of ns) ≡ in_order (tip p.number p.end) (unwritten ns p)
  pub threes : length ns % 3 ≡ (length ns - p.at) % 3
  pub counts : length (index_bytes (entries_of ns)) ≡ p.used + length (bytes_left ns p)
  pub few : p.used ≤ 5 * p.at

-- The entries from a place on are in order.
pub record Ordered (ns : List ℕ) (i number end : ℕ) : Type 0 where
  pub inside : i ≤ length ns
  pub order : in_order (tip number end) (entries_of (drop i ns)) ≡ true

-- An entry whose gaps take a byte each.
pub record Close (ns : List ℕ) (i number end : ℕ) : Type 0 where
  pub inside : i + 3 ≤ length ns
  pub gap : get_or ns i 0 - number < 128
  pub skip : get_or ns (i + 1) 0 - end < 128

-- The entries from a place on, whose bytes are still to be put: they are in order, and there is room.
pub record Putting (ns out : List ℕ) (p : Reached) : Type 0 where
  pub ordered : Ordered ns p.at p.number p.end
  pub room : p.used + length (bytes_left ns p) ≤ length out

-- From a place to another: the bytes left, put behind those that are, are the same.
pub record PutsOn (ns out : List ℕ) (p : Reached) (left : List ℕ) (q : Reached) : Type 0 where
  pub on : p.at ≤ q.at
  pub puts : Putting ns left q
  pub writes : wrote (held q.used left) (bytes_left ns q) ≡ wrote (held p.used out) (bytes_left ns p)
