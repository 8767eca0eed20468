-- PIRPA (4): the request's fields, all filled.
use Rattle.std.specs.Prelude.{ℕ, List, ℤ}
use Rattle.frame.specs.Body.{maker_body}
use Rattle.form.specs.Forms.{filled}
use Rattle.form.specs.Kind.{answer_by, fault_by, fields_for, read_by}
use Rattle.form.specs.Row.{◌▷◌, made, one, Row}
use Rattle.form.specs.declared.got.Got.{Got}
use Rattle.form_number.specs.Forms.{exact}
use Rattle.form_mask.specs.Forms.{port_mask, rate}
use Rattle.kind_pir_port.specs.declared.reply.PortTold.{PortTold}
use Rattle.kind_pir_port.specs.Command.{port_most, protocol_most}
use Rattle.numbers.specs.Layout.{Layout, maker_numbers}
use Rattle.numbers.specs.Told.{Answer, gives, refuses}

abbrev pub Readings : Type 0
Readings = Got × (Got × (Got × Got))

abbrev pub Values : Type 0
Values = ℕ × (ℕ × (ℕ × ℕ))

abbrev pub pirpa_parts : Row Readings Values
pirpa_parts = one (exact 1 0 port_most) ▷ one (filled rate) ▷ one (exact 1 0 protocol_most) ▷ one (filled port_mask)

unfoldable pub pirpa_row : Row Readings PortTold
pirpa_row =
    made
    (λ v. record { port = v.0; rate = v.1.0; protocol = v.1.1.0; mask = v.1.1.1 })
    (λ r. (r.port, (r.rate, (r.protocol, r.mask))))
    pirpa_parts

-- The record as numbers, as docs/LAYOUT.md lays them out, in the order of its fields; and back.
unfoldable pub pirpa_layout : Layout PortTold
pirpa_layout = pirpa_row.layout

abbrev pub pirpa_numbers : PortTold → List ℤ
pirpa_numbers = maker_numbers pirpa_layout

abbrev pub pirpa_at : List ℤ → PortTold
pirpa_at n = pirpa_layout.at n 0

-- What the contracts cite.
abbrev pub pirpa_from : List ℤ → Got → Got → Got → Got → Answer
pirpa_from out port rate protocol mask =
    answer_by (refuses out) pirpa_row (λ r. gives out 12 (pirpa_numbers r)) (port, (rate, (protocol, mask)))

abbrev pub pirpa_told : List ℤ → ℕ → (ℕ → List ℕ) → Answer
pirpa_told out = read_by (refuses out) pirpa_row (λ r. gives out 12 (pirpa_numbers r))

-- The first value outside its range, by the number of its field, or 0; the fields; the body.
abbrev pub pirpa_wrong : PortTold → ℕ
pirpa_wrong = fault_by pirpa_row

abbrev pub pirpa_fields : PortTold → List (List ℕ)
pirpa_fields = fields_for pirpa_row

abbrev pub pirpa_body : PortTold → List ℕ
pirpa_body r = maker_body "PIRPA" (pirpa_fields r)
