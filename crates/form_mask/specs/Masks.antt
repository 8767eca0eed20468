-- Masks in capital hex digits: GPS 1 to 8 and GLONASS 1 to 6, or `-1` for all ones, or empty; in a reply all digits. The mask of a port:
-- four, bits 7 and 12-15 zero.
use Rattle.std.specs.Prelude.{◌%◌, ◌*◌, ◌+◌, ◌-◌, ◌/◌, ◌^◌, suc, zero, ℕ, ◌&&◌, Bool, cond, [], ◌++◌, ◌∷◌, List, eqb, leb, length}
use Rattle.std.specs.Prelude.{None, Option, Some}
use Rattle.digits.specs.Bind.{bind}
use Rattle.digits.specs.Ascii.{ascii}
use Rattle.digits.specs.Hex.{hex_digit, hex_of, hex_value}
use Rattle.digits.specs.Same.{same}
use Rattle.form.specs.Got.{got_of, maybe_of}
use Rattle.form.specs.Values.{outside}
use Rattle.form.specs.declared.got.Got.{Got}

-- The value of the digits s after digits of the value n; none where a byte is no digit.
unfoldable pub hex_from : ℕ → List ℕ → Option ℕ
hex_from n [] = Some n
hex_from n (b ∷ s) = cond (hex_digit b) (hex_from (n * 16 + hex_value b) s) None

-- The value of lo to hi digits, and of no more than eight.
unfoldable pub hex_digits_of : ℕ → ℕ → List ℕ → Option ℕ
hex_digits_of lo hi s = cond (leb lo (length s) && (leb (length s) hi && leb (length s) 8)) (hex_from 0 s) None

-- n in w digits.
unfoldable pub print_hex : ℕ → ℕ → List ℕ
print_hex zero n = []
print_hex (suc w) n = print_hex w (n / 16) ++ (hex_of (n % 16) ∷ [])

-- A mask of up to width digits; there is none of more than eight.
unfoldable pub satellites_of : ℕ → List ℕ → Option ℕ
satellites_of width f =
    cond (same f (ascii "-1")) (cond (leb width 8) (Some (16 ^ width - 1)) None) (hex_digits_of 1 width f)

-- A mask of satellites in a command, where it may be empty.
unfoldable pub satellites_form : ℕ → List ℕ → Got
satellites_form width f = maybe_of f (satellites_of width f)

-- A mask of satellites in a reply.
unfoldable pub whole_form : ℕ → List ℕ → Got
whole_form width f = got_of (hex_digits_of width width f)

-- Bit 7 is zero, and so is each from 12 on.
unfoldable pub is_port_mask : ℕ → Bool
is_port_mask v = eqb (v / 128 % 2) 0 && eqb (v / 4096) 0

-- Four digits that are such a mask.
unfoldable pub port_mask_of : List ℕ → Option ℕ
port_mask_of f = bind (hex_digits_of 4 4 f) λ v. cond (is_port_mask v) (Some v) None

-- The mask of a port, which may be empty.
unfoldable pub port_mask_form : List ℕ → Got
port_mask_form f = maybe_of f (port_mask_of f)

-- The mask of a port.
unfoldable pub port_wrong : Bool → ℕ → ℕ
port_wrong there v = cond there (cond (is_port_mask v) 0 1) (outside 0 0 v)
