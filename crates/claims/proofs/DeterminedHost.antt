-- The numbers that cross to a host, and the functions that it calls: any two results that a contract permits are equal, in the answer, in
-- each number that is set and in each lent slice.
use Prim.Native.Nat.{ℕ}
use mathlib.Core.List.{[], List}
use mathlib.Core.Bool.{false}
use lib.Dec.{leb}
use lib.ListN.{length, get_or}
use lib.IntN.{ℤ, pos}
use Rattle.numbers.specs.Numbers.{is_there, is_mark, is_whole, laid, signed_of, talker_number, talker_of, whole_of}
use Rattle.numbers.specs.Told.{gives, told}
use Rattle.kind_gsv.specs.declared.Entry.{Entry}
use Rattle.form.specs.Numbers.{maybe_layout}
use Rattle.form_number.specs.Numbers.{number_layout, knots_layout, kmh_layout, signed_layout}
use Rattle.form_date.specs.Numbers.{zone_layout}
use Rattle.form_position.specs.Numbers.{place_layout}
use Rattle.form_date.specs.Numbers.{date_layout}
use Rattle.kind_gsv.specs.Row.{entry_layout}
use Rattle.address.specs.declared.Talker.{Talker}
use Rattle.address.specs.declared.Kind.{Kind}
use Rattle.address.specs.declared.Pir.{Pir}
use Rattle.fields.specs.FieldN.{field_at}
use Rattle.sentence.specs.Numbers.{count_of}
use Rattle.kind_gga.specs.Row.{gga_at}
use Rattle.kind_gll.specs.Row.{gll_at}
use Rattle.kind_gsa.specs.Row.{gsa_at}
use Rattle.kind_gsv.specs.Row.{gsv_at}
use Rattle.kind_rmc.specs.Row.{rmc_at}
use Rattle.kind_vtg.specs.Row.{vtg_at}
use Rattle.kind_zda.specs.Row.{zda_at}
use Rattle.kind_pir_port.specs.Command.{pirpr_at}
use Rattle.kind_pir_datum.specs.Command.{pirtr_at}
use Rattle.kind_pir_masks.specs.Command.{pirsr_at}
use Rattle.kind_pir_port.specs.Reply.{pirpa_at}
use Rattle.kind_pir_datum.specs.Reply.{pirta_at}
use Rattle.kind_pir_masks.specs.Reply.{pirsa_at}
use Rattle.kind_pir_code.specs.Reply.{pirea_at}
use Rattle.sentence.specs.Back.{address_at, maker_at, standard_at}
use Rattle.sky.specs.declared.Table.{Table}
use Rattle.sky_numbers.specs.Numbers.{sky_numbers, table_at}
use Rattle.receiver.specs.declared.Settings.{Settings}
use Rattle.receiver_numbers.specs.Numbers.{setting_numbers, settings_at, said}
use Rattle.receiver.specs.Settings.{at_start}
use Rattle.sentence.specs.Lines.{read_line}
use Rattle.sentence.specs.ToHost.{told_for, laid_for}
use Rattle.sentence.specs.FromHost.{left_as, mask_over, numbers_fault, record_body, written_as}
use Rattle.sky.specs.Group.{group_of}
use Rattle.host.specs.Answer.{set_at, single_line}
use Rattle.host.specs.Group.{handed, group_put}
use Rattle.host.specs.Command.{start_no, stepped, counts_at}
use Rattle.claims.proofs.Determined.{One, one}
use Rattle.claims.proofs.DeterminedWriting.{one-writing, OneWriting}

-- numbers
pub number_in : (numbers : List ℤ) (i : ℕ) → One (get_or numbers i (pos 0))
number_in numbers i = one

pub numbers-lay : (out values : List ℤ) → One (leb (length values) (length out)) × One (laid values out)
numbers-lay out values = (one, one)

pub number-there : (numbers : List ℤ) (i : ℕ) → One (is_there (get_or numbers i (pos 0)))
number-there numbers i = one

pub number-mark : (numbers : List ℤ) (i : ℕ) → One (is_mark (get_or numbers i (pos 0)))
number-mark numbers i = one

pub number-is-whole : (numbers : List ℤ) (i : ℕ) → One (is_whole (get_or numbers i (pos 0)))
number-is-whole numbers i = one

pub number-whole : (numbers : List ℤ) (i : ℕ) → One (whole_of (get_or numbers i (pos 0)))
number-whole numbers i = one

pub number-signed : (numbers : List ℤ) (i : ℕ) → One (signed_of (get_or numbers i (pos 0)))
number-signed numbers i = one

pub number-talker-number : (t : Talker) → One (talker_number t)
number-talker-number t = one

pub number-talker-of : (n : ℕ) → One (talker_of n)
number-talker-of n = one

-- What a host is told, and the numbers of a record laid.
pub tell-refused : (n field : ℕ) → One (told n 0 field)
tell-refused n field = one

pub tell-bare : (kind : ℕ) → One (told 0 kind 0)
tell-bare kind = one

pub tell-laid : (out : List ℤ) (kind : ℕ) (values : List ℤ) → One (gives out kind values).0 × One (gives out kind values).1
tell-laid out kind values = (one, one)

pub lay-entry : (out : List ℤ) (e : Entry) → One (leb 7 (length out)) × One (laid (entry_layout.numbers e []) out)
lay-entry out e = (one, one)

-- Records and values from numbers.
pub gga-at : (n : List ℤ) → One (gga_at n)
gga-at n = one

pub gll-at : (n : List ℤ) → One (gll_at n)
gll-at n = one

pub gsa-at : (n : List ℤ) → One (gsa_at n)
gsa-at n = one

pub gsv-at : (n : List ℤ) → One (gsv_at n)
gsv-at n = one

pub rmc-at : (n : List ℤ) → One (rmc_at n)
rmc-at n = one

pub vtg-at : (n : List ℤ) → One (vtg_at n)
vtg-at n = one

pub zda-at : (n : List ℤ) → One (zda_at n)
zda-at n = one

pub pirpr-at : (n : List ℤ) → One (pirpr_at n)
pirpr-at n = one

pub pirtr-at : (n : List ℤ) → One (pirtr_at n)
pirtr-at n = one

pub pirsr-at : (n : List ℤ) → One (pirsr_at n)
pirsr-at n = one

pub pirpa-at : (n : List ℤ) → One (pirpa_at n)
pirpa-at n = one

pub pirta-at : (n : List ℤ) → One (pirta_at n)
pirta-at n = one

pub pirsa-at : (n : List ℤ) → One (pirsa_at n)
pirsa-at n = one

pub pirea-at : (n : List ℤ) → One (pirea_at n)
pirea-at n = one

pub maybe-at : (n : List ℤ) (i : ℕ) → One (maybe_layout.at n i)
maybe-at n i = one

pub number_at : (n : List ℤ) (i : ℕ) → One (number_layout.at n i)
number_at n i = one

pub knots-at : (n : List ℤ) (i : ℕ) → One (knots_layout.at n i)
knots-at n i = one

pub kmh-at : (n : List ℤ) (i : ℕ) → One (kmh_layout.at n i)
kmh-at n i = one

pub signed-at : (n : List ℤ) (i : ℕ) → One (signed_layout.at n i)
signed-at n i = one

pub zone-at : (n : List ℤ) (i : ℕ) → One (zone_layout.at n i)
zone-at n i = one

pub place_at : (n : List ℤ) (i : ℕ) → One (place_layout.at n i)
place_at n i = one

pub date-at : (n : List ℤ) (i : ℕ) → One (date_layout.at n i)
date-at n i = one

pub entry_at : (n : List ℤ) (i : ℕ) → One (entry_layout.at n i)
entry_at n i = one

pub count-of : (kind : ℕ) → One (count_of kind)
count-of kind = one

pub address-at : (kind : ℕ) (talker : ℕ) → One (address_at kind talker)
address-at kind talker = one

-- sky_numbers, receiver_numbers
pub lay-sky : (out : List ℤ) (t : Talker) (r : Table) → One (leb 254 (length out)) × One (laid (sky_numbers t r) out)
lay-sky out t r = (one, one)

pub table-at : (n : List ℤ) → One (table_at n)
table-at n = one

pub lay-settings : (out : List ℤ) (s : Settings) → One (leb 11 (length out)) × One (laid (setting_numbers s) out)
lay-settings out s = (one, one)

pub settings-at : (n : List ℤ) → One (settings_at n)
settings-at n = one

pub settings-said : (n : List ℤ) → One (said n)
settings-said n = one

-- sentence, host: each exported function hands on the answer of one definition, its struct taken apart into lent numbers.
pub host-record : (line : List ℕ) (numbers : List ℤ)
    → One (told_for (read_line line) numbers) × One (laid_for (read_line line) numbers)
host-record line numbers = (one, one)

pub host-field : (line : List ℕ) (n start end : ℕ)
    → One (field_at line n).no × One (set_at (field_at line n).no (field_at line n).start start)
    × One (set_at (field_at line n).no (field_at line n).end end) × One (single_line (field_at line n).no) × One {A = ℕ} 0
host-field line n start end = (one, one, one, one, one)

pub host-read-numbers : (line : List ℕ) (numbers : List ℤ) (kind : ℕ)
    → One (told_for (read_line line) numbers).no
    × One (set_at (told_for (read_line line) numbers).no (told_for (read_line line) numbers).kind kind)
    × One (single_line (told_for (read_line line) numbers).no) × One (told_for (read_line line) numbers).field
    × One (laid_for (read_line line) numbers)
host-read-numbers line numbers kind = (one, one, one, one, one)

pub write-standard : (out : List ℕ) (t : Talker) (k : Kind) (n : List ℤ)
    → OneWriting (numbers_fault false (standard_at t k n)) (record_body (standard_at t k n)) out
write-standard out t k n = one-writing _ _ out

pub write-maker : (out : List ℕ) (k : Pir) (n : List ℤ)
    → OneWriting (numbers_fault (mask_over k n) (maker_at k n)) (record_body (maker_at k n)) out
write-maker out k n = one-writing _ _ out

pub host-line : (kind : ℕ) (numbers : List ℤ) (out : List ℕ)
    → One (written_as kind numbers out) × One (left_as kind numbers out)
host-line kind numbers out = (one, one)

pub host-write : (kind : ℕ) (numbers : List ℤ) (out : List ℕ) (stood : ℕ)
    → One (written_as kind numbers out).no × One (set_at (written_as kind numbers out).no (written_as kind numbers out).length stood)
    × One (written_as kind numbers out).line × One (written_as kind numbers out).field × One (left_as kind numbers out)
host-write kind numbers out stood = (one, one, one, one, one)

pub host-read-group : (s : List ℕ) (numbers : List ℤ)
    → One (handed (group_of s) numbers).no × One (handed (group_of s) numbers).line × One (handed (group_of s) numbers).field
    × One (handed (group_of s) numbers).numbers
host-read-group s numbers = (one, one, one, one)

pub host-write-group : (numbers : List ℤ) (out : List ℕ) (stood : ℕ)
    → One (group_put numbers out).answer.no
    × One (set_at (group_put numbers out).answer.no (group_put numbers out).answer.length stood)
    × One (group_put numbers out).answer.line × One (group_put numbers out).answer.field × One (group_put numbers out).out
host-write-group numbers out stood = (one, one, one, one, one)

pub host-start : (settings : List ℤ)
    → One (start_no settings) × One {A = ℕ} 0 × One {A = ℕ} 0 × One (laid (setting_numbers at_start) settings)
host-start settings = (one, one, one, one)

pub host-step : (settings : List ℤ) (arrival : ℕ) (line : List ℕ) (out : List ℕ) (stood : ℕ)
    → One (stepped settings arrival line out).answer.no
    × One (set_at (stepped settings arrival line out).answer.no (stepped settings arrival line out).answer.length stood)
    × One (stepped settings arrival line out).answer.line × One (stepped settings arrival line out).answer.field
    × One (stepped settings arrival line out).numbers × One (stepped settings arrival line out).out
host-step settings arrival line out stood = (one, one, one, one, one, one)

pub host-counts : (settings : List ℤ) (gps glonass : ℕ)
    → One (counts_at settings).no × One (set_at (counts_at settings).no (counts_at settings).gps gps)
    × One (set_at (counts_at settings).no (counts_at settings).glonass glonass)
    × One (counts_at settings).line × One (counts_at settings).field
host-counts settings gps glonass = (one, one, one, one, one)
