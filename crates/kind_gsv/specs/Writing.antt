-- A GSV record entry by entry, as its writer looks at it: the values outside their range, places that are not used, the fields, the body.
use Rattle.std.specs.Prelude.{◌+◌, ℕ, ◌&&◌, ◌||◌, Bool, cond, false, true, [], ◌++◌, ◌∷◌, List, eqb, ltb, get_or}
use Rattle.digits.specs.Pick.{pick}
use Rattle.address.specs.declared.Talker.{Talker}
use Rattle.frame.specs.Body.{standard_body}
use Rattle.frame.specs.Written.{refused, wrote}
use Rattle.frame.specs.declared.Written.{Written}
use Rattle.form.specs.Kind.{fields_for}
use Rattle.form.specs.Wrong.{After, after, first_wrong, near_of}
use Rattle.kind_gsv.specs.Blank.{blank_entry, is_blank}
use Rattle.kind_gsv.specs.declared.Entry.{Entry}
use Rattle.kind_gsv.specs.declared.Gsv.{Gsv}
use Rattle.kind_gsv.specs.Row.{azimuth, elevation, entry_if, gsv_row, line_number, satellite_number, satellite_total, signal, Values}

-- The entry in place k, counted from 0; and whether it is used.
abbrev pub entry_of : Gsv → ℕ → Entry
entry_of r k = get_or r.entries k blank_entry

abbrev pub used : Gsv → ℕ → Bool
used r k = ltb k r.count

-- The values of a used entry, whose first field stands after n others.
abbrev pub entry_afters : Bool → ℕ → Entry → List After
entry_afters true n e =
    after n (satellite_number.fault e.number)
    ∷ after (n + 1) (elevation.fault e.elevation)
    ∷ after (n + 2) (azimuth.fault e.azimuth)
    ∷ after (n + 3) (signal.fault e.signal)
    ∷ []
entry_afters false n e = []

-- The first wrong field from an entry's on; rest is the first after it.
abbrev pub first_in : Bool → ℕ → Entry → ℕ → ℕ
first_in on n e rest =
    cond on
    (near_of n (satellite_number.fault e.number)
    (near_of (n + 1) (elevation.fault e.elevation)
    (near_of (n + 2) (azimuth.fault e.azimuth) (near_of (n + 3) (signal.fault e.signal) rest))))
    rest

-- The first value outside its range, by the number of its field, or 0.
unfoldable pub gsv_wrong : Gsv → ℕ
gsv_wrong r =
    first_wrong
    (after 0 (line_number.fault r.lines)
    ∷ after 1 (line_number.fault r.line)
    ∷ after 2 (satellite_total.fault r.satellites)
    ∷ (entry_afters (used r 0) 3 (entry_of r 0)
    ++ (entry_afters (used r 1) 7 (entry_of r 1)
    ++ (entry_afters (used r 2) 11 (entry_of r 2)
    ++ entry_afters (used r 3) 15 (entry_of r 3)))))

unfoldable pub rest_blank : Gsv → Bool
rest_blank r =
    (used r 0 || is_blank (entry_of r 0))
    && ((used r 1 || is_blank (entry_of r 1))
    && ((used r 2 || is_blank (entry_of r 2))
    && (used r 3 || is_blank (entry_of r 3))))

unfoldable pub gsv_fault : Gsv → Written
gsv_fault r =
    pick (ltb 4 r.count) (refused 5 0 0)
    (pick (eqb (gsv_wrong r) 0) (pick (rest_blank r) (wrote 0) (refused 5 0 0)) (refused 5 1 (gsv_wrong r)))

-- The fields of an entry, used or not, and of a record.
abbrev pub entry_fields : Bool → Entry → List (List ℕ)
entry_fields on e = (entry_if on).text e

abbrev pub gsv_values : Gsv → Values
gsv_values r = (r.lines, (r.line, (r.satellites, (entry_of r 0, (entry_of r 1, (entry_of r 2, entry_of r 3))))))

unfoldable pub gsv_fields : Gsv → List (List ℕ)
gsv_fields r = fields_for (gsv_row r.count) (gsv_values r)

abbrev pub gsv_body : Talker → Gsv → List ℕ
gsv_body t r = standard_body t "GSV" (gsv_fields r)
