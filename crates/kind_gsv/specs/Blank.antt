-- Blank records: all values missing and zero.
use Rattle.std.specs.Prelude.{◌&&◌, Bool, eqb, replicate}
use Rattle.form.specs.Values.{is_missing, no_maybe}
use Rattle.kind_gsv.specs.declared.Entry.{Entry}
use Rattle.kind_gsv.specs.declared.Gsv.{Gsv}

abbrev pub blank_entry : Entry
blank_entry = record { number = 0; elevation = no_maybe; azimuth = no_maybe; signal = no_maybe }

abbrev pub blank_gsv : Gsv
blank_gsv = record { lines = 0; line = 0; satellites = 0; count = 0; entries = replicate 4 blank_entry }

unfoldable pub is_blank : Entry → Bool
is_blank e = eqb e.number 0 && (is_missing e.elevation && (is_missing e.azimuth && is_missing e.signal))
