-- Bytes that are to be the body of a line.
use Rattle.std.specs.Prelude.{Option, Some, None, ◌+◌, ℕ, [], ◌∷◌, List, ◌&&◌, Bool, cond, eqb, leb, ltb, length}
use Rattle.digits.specs.Pick.{pick}
use Rattle.line.specs.Line.{body_byte, body_bytes}
use Rattle.frame.specs.declared.Written.{Written}
use Rattle.frame.specs.Written.{refused, wrote}
use Rattle.bodies.specs.declared.Why.{Why}
use Rattle.bodies.specs.declared.Why.TheVariants.{Empty, Long, Other}

-- A body has 1 to 76 bytes, each of which may stand in a body.
unfoldable pub is_body : List ℕ → Bool
is_body s = leb 1 (length s) && (leb (length s) 76 && body_bytes s)

-- The fault of bytes that are none: 1, on line 1.
unfoldable pub body_fault : List ℕ → Written
body_fault s = pick (is_body s) (wrote 0) (refused 1 1 0)

-- How many bytes stand before the first that may not stand in a body, or all.
unfoldable pub other_in : List ℕ → ℕ
other_in [] = 0
other_in (b ∷ s) = cond (body_byte b) (other_in s + 1) 0

-- The first reason why bytes are no body; none where they are one.
unfoldable pub why_of : List ℕ → Option Why
why_of s =
    pick (eqb (length s) 0) (Some Empty)
    (pick (ltb 76 (length s)) (Some Long)
    (pick (ltb (other_in s) (length s)) (Some (Other (other_in s))) None))
