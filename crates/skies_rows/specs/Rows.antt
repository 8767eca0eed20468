-- What is printed of a run: a whole sky with its talker, how many satellites it has and a row for each, or the refusal of the group in
-- words; both with the number and the offset of the run's first line. Rows are ended by LF.
use Rattle.std.specs.Prelude.{ℕ, cond, [], ◌++◌, ◌∷◌, List, eqb, length}
use Rattle.digits.specs.Ascii.{ascii}
use Rattle.address.specs.declared.Talker.{Talker}
use Rattle.form.specs.declared.Maybe.{Maybe}
use Rattle.frame.specs.Body.{talker_text}
use Rattle.kind_gsv.specs.declared.Entry.{Entry}
use Rattle.sky.specs.Group.{Answer, refused, whole}
use Rattle.text.specs.Numbers.{decimal_text}
use Rattle.words.specs.Words.{refusal_text}

-- A value behind its blank, `-` where it was not sent.
unfoldable pub sent_text : Maybe → List ℕ
sent_text v = 32 ∷ cond v.there (decimal_text v.value) (ascii "-")

-- Number, elevation, azimuth and signal.
abbrev pub satellite_text : Entry → List ℕ
satellite_text e =
    decimal_text e.number ++ (sent_text e.elevation ++ (sent_text e.azimuth ++ (sent_text e.signal ++ (10 ∷ []))))

unfoldable pub satellites_text : List Entry → List ℕ
satellites_text [] = []
satellites_text (e ∷ es) = satellite_text e ++ satellites_text es

unfoldable pub count_text : ℕ → List ℕ
count_text n = ascii ", " ++ (decimal_text n ++ cond (eqb n 1) (ascii " satellite\n") (ascii " satellites\n"))

abbrev pub sky_text : Talker → ℕ → List Entry → List ℕ
sky_text t n es = talker_text t ++ (count_text n ++ satellites_text es)

-- The line is counted within the run; a field is 0 where none is named.
unfoldable pub where_text : ℕ → ℕ → List ℕ
where_text line field = ascii " at its line " ++ (decimal_text line ++ (ascii ", field " ++ (decimal_text field ++ ascii ": ")))

abbrev pub refused_text : ℕ → ℕ → ℕ → List ℕ
refused_text n line field = ascii "refused " ++ (decimal_text n ++ (where_text line field ++ (refusal_text n ++ (10 ∷ []))))

-- The number of the first line, and how many bytes stand before it.
unfoldable pub place_text : ℕ → ℕ → List ℕ
place_text number offset = decimal_text number ++ (ascii ", offset " ++ (decimal_text offset ++ ascii ": "))

abbrev pub run_text : ℕ → ℕ → Answer → List ℕ
run_text number offset (whole t es) = ascii "sky at line " ++ (place_text number offset ++ sky_text t (length es) es)
run_text number offset (refused n k f) = ascii "no sky at line " ++ (place_text number offset ++ refused_text n k f)
