-- The line: `$`, a body of at least one byte, `*`, two digits 0-9 or A-F, CR, LF. Length 7 to 82 bytes, all counted.
use Rattle.std.specs.Prelude.{ℕ, ◌-◌, ◌/◌, ◌%◌, List, [], ◌∷◌, ◌++◌, Bool, true, cond, not, ◌&&◌, length, get_or, take, drop, leb, eqb}
use Rattle.std.specs.Int.Bits.{bit_xor}
use Rattle.digits.specs.Ascii.{ascii}
use Rattle.digits.specs.Hex.{hex_digit, hex_of}

-- b is none of the bytes of l.
unfoldable pub none_of : List ℕ → ℕ → Bool
none_of [] b = true
none_of (c ∷ l) b = not (eqb b c) && none_of l b

-- Body bytes are hex 20 to 7E without $ * ! \ ^ ~.
unfoldable pub body_byte : ℕ → Bool
body_byte b = leb 0x20 b && (leb b 0x7E && none_of (ascii "$*!\\^~") b)

unfoldable pub body_bytes : List ℕ → Bool
body_bytes [] = true
body_bytes (b ∷ s) = body_byte b && body_bytes s

-- The XOR of the bytes s, and of x before them.
unfoldable pub xor_from : ℕ → List ℕ → ℕ
xor_from x [] = x
xor_from x (b ∷ s) = xor_from (bit_xor x b) s

unfoldable pub xor_of : List ℕ → ℕ
xor_of s = xor_from 0 s

-- What stands between the `$` and the `*`; and from the `*` on.
abbrev pub body_of : List ℕ → List ℕ
body_of l = take (length l - 6) (drop 1 l)

abbrev pub end_of : List ℕ → List ℕ
end_of l = drop (length l - 5) l

-- `*`, two digits, CR, LF
unfoldable pub end_form : List ℕ → Bool
end_form t = eqb (get_or t 0 0) 42 && (hex_digit (get_or t 1 0) && (hex_digit (get_or t 2 0) && (eqb (get_or t 3 0) 13 && eqb (get_or t 4 0) 10)))

-- The edges of a line: its length, the `$` and its end; and all of its form.
unfoldable pub edge_form : List ℕ → Bool
edge_form l = leb 7 (length l) && (leb (length l) 82 && (eqb (get_or l 0 0) 36 && end_form (end_of l)))

unfoldable pub line_form : List ℕ → Bool
line_form l = edge_form l && body_bytes (body_of l)

-- The digits of an end give x, high half first.
unfoldable pub end_gives : ℕ → List ℕ → Bool
end_gives x t = eqb (get_or t 1 0) (hex_of (x / 16)) && eqb (get_or t 2 0) (hex_of (x % 16))

-- 0: a line; 1: the line rule fails; 2: the digits differ from the XOR of the body.
unfoldable pub line_refusal : List ℕ → ℕ
line_refusal l = cond (line_form l) (cond (end_gives (xor_of (body_of l)) (end_of l)) 0 2) 1

-- `$`, a body, `*`, two digits d and e, CR, LF; and the line of a body, whose digits are those of its XOR.
abbrev pub line_with : List ℕ → ℕ → ℕ → List ℕ
line_with body d e = 36 ∷ body ++ (42 ∷ d ∷ e ∷ 13 ∷ 10 ∷ [])

abbrev pub as_line : List ℕ → List ℕ
as_line body = line_with body (hex_of (xor_of body / 16)) (hex_of (xor_of body % 16))
