-- The claims of the library, each under a plain sentence. The argument of each stands in the file that its last line names; what a
-- function is promised to give stands in its contract, in src/, and in the definition that the contract cites, in specs/.
use Prim.Native.Nat.{◌+◌, ◌-◌, ◌<◌, ◌≤◌, suc, ℕ}
use mathlib.Core.Path.{◌≡◌}
use mathlib.Core.List.{[], ◌++◌, ◌∷◌, List}
use mathlib.Core.Bool.{false, true}
use lib.IntN.{ℤ}
use lib.ListN.{drop, get_or, length, take}
use borrow.Author.Tests.{ne_eqb}
use Rattle.digits.specs.Hex.{hex_digit}
use Rattle.line.specs.Line.{as_line, body_of, end_of, line_refusal, line_with}
use Rattle.line.proofs.Form as Form
use Rattle.lines.specs.Cut.{cut_lines, joined}
use Rattle.lines.specs.Edit.{OneByte}
use Rattle.lines.specs.Reader.{read_lines, Step, stop}
use Rattle.lines.specs.New.{line_of}
use Rattle.lines.specs.Caught.{Caught, NotRefused}
use Rattle.lines.proofs.CutLaws as CutLaws
use Rattle.lines.proofs.Machine as Machine
use Rattle.lines.proofs.Point3 as Point3
use Rattle.fields.specs.Fields.{fields_of, join_fields}
use Rattle.fields.proofs.Joining as Joining
use Rattle.finder.specs.Finder.{ends_here, given, given_all, held_after, open_line}
use Rattle.finder.specs.Slice.{found_at}
use Rattle.finder.proofs.History as History
use Rattle.finder.proofs.SliceLines as SliceLines
use Rattle.address.specs.declared.Address.TheVariants.{Unknown}
use Rattle.address.specs.Address.{address_of}
use Rattle.sentence.specs.Sentence.{Refused}
use Rattle.sentence.specs.Lines.{read_body, read_line, refusal, refusal_of}
use Rattle.sentence.proofs.Order as Order
use Rattle.address.specs.declared.Talker.{Talker}
use Rattle.kind_gga.specs.declared.Gga.{Gga}
use Rattle.sentence.specs.Sentence as S
use Rattle.kind_gsv.specs.declared.Entry.{Entry}
use Rattle.sky.specs.Group as Group
use Rattle.sky.proofs.Damage as Damage
use Rattle.sky.specs.declared.Table.{Table}
use Rattle.sky.specs.Sky.{table_of}
use Rattle.sky.specs.Table.{WritesGroup}
use Rattle.sky_laws.proofs.Exactly as Exactly
use Rattle.sky_laws.proofs.Half as Half
use Rattle.frame.specs.declared.Written.{Written}
use Rattle.frame.specs.Written.{fault_at, refused, Writes, wrote}
use Rattle.kind_gga.specs.Row.{gga_body, gga_wrong}
use Rattle.claims.proofs.Rewriting as Rewriting
use Rattle.claims.proofs.Writing as Writing
use Rattle.claims.proofs.Skies as Skies
use Rattle.receiver.specs.declared.Done.{Done}
use Rattle.receiver.specs.declared.Settings.{Settings}
use Rattle.receiver.specs.Settings.{settings_good}
use Rattle.receiver.specs.Command.{Does, named_port, Outcome, outcome_of, port_told, sentence_outcome, settings_after}
use Rattle.kind_pir_port.specs.declared.command.PortAsked.{PortAsked}
use Rattle.sentence.specs.Sentence.{Sentence}
use Rattle.kind_gga.specs.Row.{gga_at}
use Rattle.sentence.specs.Back.{record_at}
use Rattle.sentence.specs.ToHost.{laid_for, told_for}
use Rattle.sentence.specs.FromHost.{written_as}
use Rattle.numbers.specs.Numbers.{is_there, is_whole}
use Rattle.numbers.specs.Layout.{number_at}
use Rattle.sentence_laws.proofs.HostBack as Host
use Rattle.claims.proofs.WrongNumbers as Wrong
use Rattle.claims.proofs.Commands as Commands
use Rattle.claims.proofs.Replies as Replies
use Rattle.claims.proofs.Rows as Rows
use Rattle.claims.proofs.Rows.{AllHold, rows, rows-hold}
use Rattle.index_sevens.specs.Sevens as Sevens
use Rattle.index_sevens.proofs.Groups as Groups
use Rattle.index.specs.Index as Index
use Rattle.index.specs.Answers as Exhibit
use Rattle.index.specs.declared.Entry as IndexEntry
use Rattle.index.proofs.Promises as Promises
use Rattle.index.proofs.Turns as IndexTurns
use Rattle.host.specs.Answer.{set_at}
use Rattle.form.proofs.PlaceLaws.{Agree}
use Rattle.form_date.proofs.PlaceDate.{no-such-day}
use Rattle.form_date.specs.Dates.{date_three}
use Rattle.digits.specs.Ascii.{ascii}
use Rattle.digits.specs.Decimal.{print_fixed}
use Rattle.address.specs.declared.Address.{Address}
use Rattle.fields.specs.Places.{the_fields}
use Rattle.sentence_laws.proofs.Five as Fives
use Rattle.sentence_laws.proofs.FiveLines as Lines

-- What the line rule accepts is `$`, a body of 1 to 76 allowed bytes, `*`, the two digits of its XOR, CR, LF ..
pub line-accepted : (l : List ℕ) → line_refusal l ≡ 0 → Form.Body (body_of l) × (l ≡ as_line (body_of l))
line-accepted = Form.accepted

-- .. and every such list is accepted.
pub line-accepts : (body : List ℕ) → Form.Body body → line_refusal (as_line body) ≡ 0
line-accepts = Form.accepts

-- Refusal 2 is given exactly where all of it holds but the digits.
pub line-two : (l : List ℕ) → line_refusal l ≡ 2 → Form.Formed l × Form.OtherDigits (body_of l) (get_or (end_of l) 1 0) (get_or (end_of l) 2 0)
line-two = Form.refused-two

pub line-is-two : (body : List ℕ) (d e : ℕ) → Form.Body body → hex_digit d ≡ true → hex_digit e ≡ true → Form.OtherDigits body d e
    → line_refusal (line_with body d e) ≡ 2
line-is-two = Form.refuses-two

-- Two lines that both pass never differ by one byte changed, dropped or added; nor do two runs of lines that all pass.
pub line-one-byte : {l m : List ℕ} → OneByte l m → line_refusal l ≡ 0 → line_refusal m ≡ 0 → ⊥
line-one-byte = Machine.line-one-byte

pub run-one-byte : {g h : List ℕ} → OneByte g h → Machine.Lines (cut_lines g) → Machine.Lines (cut_lines h) → ⊥
run-one-byte = Machine.run-one-byte

-- Any reader that takes the lines in order, and refuses a line that fails the line rule with that number, answers one byte of damage
-- to what it accepts with 1 or 2 at the first line that is new or no longer as it was.
pub damage-caught : {S A : Type 0} (refused : ℕ → ℕ → ℕ → A) (rule : S → ℕ → List ℕ → Step S) (finish : S → ℕ → A)
    → ((q : S) (k : ℕ) (l : List ℕ) → (line_refusal l ≡ 0 → ⊥) → rule q k l ≡ stop (line_refusal l) 0)
    → (q : S) {g h : List ℕ} → OneByte g h → NotRefused refused (read_lines refused rule finish q g)
    → Caught refused (cut_lines g) (cut_lines h) (read_lines refused rule finish q h)
damage-caught = Point3.point-three

-- So does the group reader's definition: one byte changed, dropped or added anywhere in the bytes of a whole group, line ends included.
pub group-damage-caught : {g h : List ℕ} (t : Talker) (es : List Entry) → OneByte g h → Group.group_of g ≡ Group.whole t es
    → Caught Group.refused (cut_lines g) (cut_lines h) (Group.group_of h)
group-damage-caught = Damage.damage-caught

-- A group that was read, written into an output with room for it, is the same bytes ..
pub group-same-bytes : (g : List ℕ) (t : Talker) (es : List Entry) → Group.group_of g ≡ Group.whole t es
    → {out : List ℕ} {answer : Written} {left : List ℕ} → length g ≤ length out → WritesGroup t (table_of es) out answer left
    → (answer ≡ wrote (length g)) × (take (length g) left ≡ g)
group-same-bytes = Skies.group-same-bytes

-- .. what a group writer wrote is read back as the same table ..
pub group-back : {t : Talker} {r : Table} {out : List ℕ} {answer : Written} {left : List ℕ} → WritesGroup t r out answer left
    → answer.no ≡ 0
    → length r.entries ≡ 36 → Group.group_of (take answer.length left) ≡ Group.whole t (take r.count r.entries)
group-back = Skies.group-back

-- .. so the groups are exactly what is written of the tables in range, and there is one of each count from 0 to 36.
pub group-exactly : (g : List ℕ) → (Exactly.IsGroup g → Exactly.IsWritten g) × (Exactly.IsWritten g → Exactly.IsGroup g)
group-exactly = Exactly.exactly

pub group-every-count : (n : ℕ) → n ≤ 36 → (g : List ℕ) × (x : Exactly.IsGroup g) × (length x.entries ≡ n)
group-every-count = Exactly.every-count

-- The lines of a whole group up to any before the last are refused, with 6 at the next line: half a list is no sky.
pub group-half-refused : (g : List ℕ) (t : Talker) (es : List Entry) (ls : List (List ℕ)) (l : List ℕ) (ms : List (List ℕ))
    → Group.group_of g ≡ Group.whole t es → cut_lines g ≡ ls ++ (l ∷ ms) → 0 < length ls → Group.group_of (joined ls) ≡ Group.refused 6
    (length ls + 1) 0
group-half-refused = Half.half-refused

-- No reader that goes by the first line alone reads groups.
pub group-not-line-one : (P : List ℕ → Group.Answer) → ((g : List ℕ) → Group.group_of g ≡ P (line_of (cut_lines g) 1)) → ⊥
group-not-line-one = Half.not-line-one

-- A group writer that refuses leaves every byte of the output.
pub group-refusal-leaves : {t : Talker} {r : Table} {out : List ℕ} {answer : Written} {left : List ℕ} → WritesGroup t r out answer left
    → (answer.no ≡ 0 → ⊥) → left ≡ out
group-refusal-leaves = Skies.group-refusal-leaves

-- Bytes cut and joined again are the bytes.
pub cut-joined : (s : List ℕ) → joined (cut_lines s) ≡ s
cut-joined = CutLaws.cut-joined

-- Fields joined by commas are the fields again, and the fields of a body, joined, are the body.
pub fields_join : (f : List ℕ) (fs : List (List ℕ)) → Joining.Free (f ∷ fs) → fields_of (join_fields f fs) ≡ f ∷ fs
fields_join = Joining.fields_join

pub join-fields : (s : List ℕ) → Joining.join_all (fields_of s) ≡ s
join-fields = Joining.join-fields

-- Over every history the finder, fed byte by byte, says at each byte exactly what the rule of the line finder says, and the line given
-- out is the last so many bytes: from the last `$` through the LF.
pub finder-finds : (h : List ℕ) (b : ℕ) → ends_here (held_after 0 h) b ≡ length (given h b)
finder-finds = History.finds

pub finder-bytes : (h : List ℕ) (b : ℕ) → given h b ≡ drop (length h + 1 - length (given h b)) (h ++ b ∷ [])
finder-bytes = History.given-last

-- The finder over a slice finds the same lines, one after the other ..
pub slice-line : (s : List ℕ) (at : ℕ) → open_line (take at s) ≡ [] → (found_at s at).line ≡ true → SliceLines.NextLine s at (found_at s at)
slice-line = SliceLines.slice-line

pub slice-none : (s : List ℕ) (at : ℕ) → open_line (take at s) ≡ [] → (found_at s at).line ≡ false → given_all (take at s) (drop at s) ≡ []
slice-none = SliceLines.slice-none

-- .. also where only the bytes from its `start` on are kept until more come.
pub slice-rest : (s : List ℕ) (at : ℕ) → (found_at s at).line ≡ false → (t : List ℕ)
    → given_all [] (drop at s ++ t) ≡ given_all [] (drop (found_at s at).start s ++ t)
slice-rest = SliceLines.slice-rest

-- A line that fails the line rule is refused with that number at field 0, and holds no record ..
pub read-refused : (l : List ℕ) → (line_refusal l ≡ 0 → ⊥) → read_line l ≡ Refused (line_refusal l) 0
read-refused = Order.refused

-- .. one that passes is read of its body; an unknown address is 3. What each kind comes to stands in specs/, as a table of its fields; the
-- field forms from both sides stand in Forms.antt.
pub read-sound : (l : List ℕ) → line_refusal l ≡ 0 → read_line l ≡ read_body (body_of l)
read-sound = Order.sound

pub read-unknown : (l : List ℕ) → line_refusal l ≡ 0 → address_of (body_of l) ≡ Unknown → read_line l ≡ Refused 3 0
read-unknown = Order.unknown

-- The place of a 5: it is one of the fields; whatever stands in the fields after it, they are refused with 5 at the same field ..
pub five-within : (a : Address) (n : ℕ) (field : ℕ → List ℕ) (w : ℕ) → Fives.told_of a n field ≡ refusal 5 w → (0 < w) × (w ≤ n)
five-within a n field w e = (Fives.five a n field w e).within

pub five-stays : (a : Address) (n : ℕ) (field other : ℕ → List ℕ) (w : ℕ) → Fives.told_of a n field ≡ refusal 5 w → Agree field other suc w
    → Fives.told_of a n other ≡ refusal 5 w
five-stays a n field other w e = (Fives.five a n field w e).stays other

-- .. of two lines too, with the same address, as many fields, and the same up to the one that is named ..
pub five-line : (l m : List ℕ) (w : ℕ) → line_refusal l ≡ 0 → line_refusal m ≡ 0 → address_of (body_of m) ≡ address_of (body_of l)
    → length (fields_of (body_of m)) ≡ length (fields_of (body_of l)) → refusal_of (read_line l) ≡ refusal 5 w
    → Agree (the_fields (body_of l)) (the_fields (body_of m)) suc w → refusal_of (read_line m) ≡ refusal 5 w
five-line = Lines.five-line

-- .. and the fields before it can be completed to fields that are read, the length of the line aside ..
pub five-completed : (a : Address) (n : ℕ) (field : ℕ → List ℕ) (w : ℕ) → Fives.told_of a n field ≡ refusal 5 w → Fives.usual a field
    → Fives.Accepted a n field w
five-completed a n field w e = (Fives.five a n field w e).completed

-- .. but for a ZDA whose day no year has in that month: 31 and 02 are refused at the year, whatever it is.
pub five-no-such-day : (y : List ℕ) → (date_three (ascii "31") (ascii "02") y).wrong ≡ 3
unfolding print_fixed
five-no-such-day y = no-such-day y

-- A writer that refuses leaves every byte of the output, and one that writes leaves the bytes past what it wrote.
pub refusal-leaves : {fault : Written} {body out : List ℕ} {answer : Written} {left : List ℕ} → Writes fault body out answer left
    → (answer.no ≡ 0 → ⊥) → left ≡ out
refusal-leaves = Writing.refusal-leaves

pub rest-stays : {fault : Written} {body out : List ℕ} {answer : Written} {left : List ℕ} → Writes fault body out answer left
    → answer.no ≡ 0 → drop answer.length left ≡ drop answer.length out
rest-stays = Writing.rest-stays

-- What we write reads back as the same record and talker: here GGA; file Writing has it for each of the fifteen kinds.
pub gga-back : (t : Talker) (r : Gga) {out left : List ℕ} {answer : Written} → Writes (fault_at (gga_wrong r)) (gga_body t r) out answer left
    → answer.no ≡ 0 → read_line (take answer.length left) ≡ S.Gga t r
gga-back = Writing.gga-back

-- What was read can be written: of every kind, it is in range, and its line fits.
pub read-can-be-written : (l : List ℕ) → Rewriting.CanBeWritten (read_line l)
read-can-be-written = Writing.read-can-be-written

-- A refused command leaves the settings and every byte of the output ..
pub command-refusal-leaves-settings : {s : Settings} {o : Outcome} {out : List ℕ} {d : Done} {left : List ℕ} → Does s o out d left
    → (d.written.no ≡ 0 → ⊥) → d.settings ≡ s
command-refusal-leaves-settings = Commands.refused-leaves-settings

pub command-refusal-leaves-output : {s : Settings} {o : Outcome} {out : List ℕ} {d : Done} {left : List ℕ} → Does s o out d left
    → (d.written.no ≡ 0 → ⊥) → left ≡ out
command-refusal-leaves-output = Commands.refused-leaves-output

-- .. settings in range stay in range, whatever the line ..
pub settings-stay-in-range : (s : Settings) (p : ℕ) (l : List ℕ) {out : List ℕ} {d : Done} {left : List ℕ}
    → Does s (outcome_of s p l) out d left
    → settings_good s ≡ true → settings_good d.settings ≡ true
settings-stay-in-range = Replies.settings-stay-in-range

-- .. and the reply reads back as the record of the values after the command: here PIRPA; file Replies has it for each of the four.
pub port-reply : (s : Settings) (p : ℕ) {out : List ℕ} {d : Done} {left : List ℕ} (r : PortAsked)
    → Does s (sentence_outcome s p (S.Pr r)) out d left
    → d.written.no ≡ 0 → read_line (take d.written.length left) ≡ S.Pa (port_told d.settings (named_port p r))
port-reply = Replies.port-reply

-- A step that replies and alters nothing is not the step.
pub step-alters : ((s : Settings) (p : ℕ) (l : List ℕ) (room : ℕ) → settings_after s (outcome_of s p l) room ≡ s) → ⊥
step-alters = Rows.step-alters

-- A record that crossed to a host as numbers, handed back, is what the line came to; a refusal leaves the host's numbers.
pub host-back : (l : List ℕ) (numbers : List ℤ) → ((told_for (read_line l) numbers).kind ≡ 0 → ⊥)
    → record_at (told_for (read_line l) numbers).kind (laid_for (read_line l) numbers) ≡ read_line l
host-back = Host.host-back

pub host-refusal-leaves : (r : Sentence) (numbers : List ℤ) → ((told_for r numbers).no ≡ 0 → ⊥) → laid_for r numbers ≡ numbers
host-refusal-leaves = Host.refusal-leaves

-- A number of a host that is no mark never passes for one: its value is outside every range. So for all marks of a GGA ..
pub gga-marks : (n : List ℤ) → gga_wrong (gga_at n) ≡ 0 → Wrong.GgaMarks n
gga-marks = Wrong.gga-marks

-- .. and a GPS mask that 32 bits do not hold is refused in field 1 of PIRSR and of PIRSA, whatever else the numbers say.
pub gps-asked : (n : List ℤ) (out : List ℕ) → 4 ≤ length n → is_there (number_at n 0) ≡ true → is_whole (number_at n 1) ≡ false
    → written_as 10 n out ≡ refused 5 1 1
gps-asked = Wrong.gps-asked

pub gps-told : (n : List ℤ) (out : List ℕ) → 2 ≤ length n → is_whole (number_at n 0) ≡ false → written_as 14 n out ≡ refused 5 1 1
gps-told = Wrong.gps-told

-- The worked rows hold of the definitions.
pub worked-rows : AllHold rows
worked-rows = rows-hold

-- A number up to 4294967295 in groups of seven bits is taken as that number, whatever stands behind it ..
pub sevens-back : (v : ℕ) (rest : List ℕ) → v ≤ Sevens.most → Sevens.take_sevens (Sevens.sevens v ++ rest) ≡ Sevens.value v rest
sevens-back = Groups.sevens-back

-- .. and what is taken as a number are its own groups: the shortest form only.
pub sevens-only : (v : ℕ) (s rest : List ℕ) → Sevens.take_sevens s ≡ Sevens.value v rest → (s ≡ Sevens.sevens v ++ rest) × (v ≤ Sevens.most)
sevens-only = Groups.sevens-only

-- An index that was written reads back as the entries that were given ..
pub index_back : (numbers out : List ℕ) → (Exhibit.written_index numbers (length out)).no ≡ 0
    → Index.read_index (take (Exhibit.written_index numbers (length out)).length (Exhibit.left_index numbers out)) ≡ Index.listed
    (Exhibit.entries_of numbers)
index_back = Promises.written_back

-- .. bytes that read are the bytes of their entries, which are in range and order ..
pub index-bytes : (s : List ℕ) (es : List IndexEntry.Entry) → Index.read_index s ≡ Index.listed es
    → (s ≡ Index.index_bytes es) × (Index.in_order Index.origin es ≡ true)
index-bytes = Promises.read-bytes

-- .. and, written again, they are the same bytes ..
pub index_same : (s out : List ℕ) (es : List IndexEntry.Entry) → Index.read_index s ≡ Index.listed es → length s ≤ length out
    → (Exhibit.written_index (Exhibit.numbers_of es) (length out) ≡ wrote (length s))
    × (Exhibit.left_index (Exhibit.numbers_of es) out ≡ s ++ drop (length s) out)
index_same = Promises.read-written

-- .. so lists of entries are equal exactly when their bytes are.
pub index-equal : (es ds : List IndexEntry.Entry) → Index.in_order Index.origin es ≡ true → Index.in_order Index.origin ds ≡ true
    → (Index.index_bytes es ≡ Index.index_bytes ds → es ≡ ds) × (es ≡ ds → Index.index_bytes es ≡ Index.index_bytes ds)
index-equal = Promises.same_bytes

-- Of an index, an exhibit's number is found where an entry has it, with that entry's offset and length ..
pub index-found : (s : List ℕ) (es : List IndexEntry.Entry) → Index.read_index s ≡ Index.listed es → (number : ℕ) (e : IndexEntry.Entry)
    → Promises.Stands e es → e.number ≡ number → Exhibit.found_in number (Index.read_index s) ≡ Exhibit.finding 0 e.offset e.length
index-found = Promises.found-entry

-- .. only there ..
pub index-found-entry : (s : List ℕ) (es : List IndexEntry.Entry) → Index.read_index s ≡ Index.listed es → (number : ℕ)
    → (Exhibit.found_in number (Index.read_index s)).no ≡ 0 → (e : IndexEntry.Entry) × (Promises.Stands e es
    × ((e.number ≡ number) × (Exhibit.found_in number (Index.read_index s) ≡ Exhibit.finding 0 e.offset e.length)))
index-found-entry = Promises.entry_found

-- .. it is refused with 12 exactly where no entry has it ..
pub index-not-found : (s : List ℕ) (es : List IndexEntry.Entry) → Index.read_index s ≡ Index.listed es → (number : ℕ)
    → ((e : IndexEntry.Entry) → Promises.Stands e es → e.number ≡ number → ⊥)
    → Exhibit.found_in number (Index.read_index s) ≡ Exhibit.finding 12 0 0
index-not-found = Promises.none_found

pub index-twelve : (s : List ℕ) (es : List IndexEntry.Entry) → Index.read_index s ≡ Index.listed es → (number : ℕ)
    → (Exhibit.found_in number (Index.read_index s)).no ≡ 12 → (e : IndexEntry.Entry) → Promises.Stands e es → e.number ≡ number → ⊥
index-twelve = Promises.twelve-none

-- .. and with 11 exactly where the bytes are no index, whatever the number.
pub index-eleven : (s : List ℕ) (number : ℕ)
    → (Index.read_index s ≡ Index.no_index → Exhibit.found_in number (Index.read_index s) ≡ Exhibit.finding 11 0 0)
    × ((Exhibit.found_in number (Index.read_index s)).no ≡ 11 → Index.read_index s ≡ Index.no_index)
index-eleven = Promises.eleven

-- Numbers ascend: an entry that stands behind another has the greater number, so that 10 never stands before 2.
pub index-ascending : (s : List ℕ) (front : List IndexEntry.Entry) (d e : IndexEntry.Entry) (es : List IndexEntry.Entry)
    → Index.read_index s ≡ Index.listed (front ++ (d ∷ es)) → Promises.Stands e es → d.number < e.number
index-ascending = Promises.ascending

-- What is added: the new bytes are the old and the entry's, and read as the old entries and the new one ..
pub index-added : (buffer : List ℕ) (used : ℕ) (e : IndexEntry.Entry) → (Exhibit.added_index buffer used e).no ≡ 0
    → Promises.Added buffer used e
index-added = Promises.added

-- .. and 5 is given exactly where it does not fit behind the last.
pub index-five : (buffer : List ℕ) (used : ℕ) (e : IndexEntry.Entry) (es : List IndexEntry.Entry) → used ≤ length buffer
    → Index.read_index (take used buffer) ≡ Index.listed es
    → (Index.fits (Exhibit.last_of Index.origin es) e ≡ false → Exhibit.added_index buffer used e ≡ refused 5 0 0)
    × ((Exhibit.added_index buffer used e).no ≡ 5 → Index.fits (Exhibit.last_of Index.origin es) e ≡ false)
index-five = Promises.five-unfit

-- Reading in turns is reading the whole: the whole entries of some bytes, then the bytes kept with those that come.
pub index-turns : {before last : IndexEntry.Entry} {s kept : List ℕ} {es : List IndexEntry.Entry} → IndexTurns.Begins before s es last kept
    → (t : List ℕ) → Index.read_from before (s ++ t) ≡ IndexTurns.onto_all es (Index.read_from last (kept ++ t))
index-turns = IndexTurns.turns

-- No bytes that come mend bytes that no entry begins with.
pub index-bad-stays : (before : IndexEntry.Entry) (s t : List ℕ) → Index.entry_of before s ≡ Index.bad
    → Index.read_from before (s ++ t) ≡ Index.no_index
index-bad-stays = IndexTurns.bad-stays

-- A refusal of the index leaves every lent byte and number, and the places for its answer.
pub index-write-leaves : (numbers out : List ℕ) → ((Exhibit.written_index numbers (length out)).no ≡ 0 → ⊥)
    → Exhibit.left_index numbers out ≡ out
index-write-leaves = Promises.write-leaves

pub index-read-leaves : (s out : List ℕ) → ((Exhibit.listed_for (Index.read_index s) (length out)).no ≡ 0 → ⊥)
    → Exhibit.laid_for (Index.read_index s) out ≡ out
index-read-leaves = Promises.read-leaves

pub index-add-leaves : (buffer : List ℕ) (used : ℕ) (e : IndexEntry.Entry) → ((Exhibit.added_index buffer used e).no ≡ 0 → ⊥)
    → Exhibit.left_added buffer used e ≡ buffer
index-add-leaves = Promises.add-leaves

pub index-place-left : (n value stood : ℕ) → (n ≡ 0 → ⊥) → set_at n value stood ≡ stood
index-place-left n value stood h = rw (ne_eqb n 0 h)
