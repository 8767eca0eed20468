-- The laws of the rows of PIRPR and PIRPA, form by form: what is written is read back, what was read is in range, and which field a 5
-- names.
use mathlib.Core.Bool.{Bool}
use mathlib.Core.Path.{refl}
use lib.Dec.{lit<, lit≤}
use Rattle.form.specs.Row.{one}
use Rattle.form.proofs.Alike.{no-range, range-held}
use Rattle.form.proofs.Laws.{◌⊳◌, Lawful, lawful-depending, lawful-made, lawful-one}
use Rattle.form.proofs.NeededLaws.{lawful-filled, lawful-needed}
use Rattle.form.proofs.PlaceLaws.{Prefix, prefix-made, prefix-one}
use Rattle.form.proofs.PlaceNeeded.{prefix-filled, prefix-needed}
use Rattle.form.proofs.PlaceRows.{◌⊩◌, prefix-depending}
use Rattle.form_number.specs.Forms.{fixed}
use Rattle.form_number.proofs.Laws.{lawful-exact, lawful-fixed}
use Rattle.form_number.proofs.Place.{prefix-exact, prefix-fixed, told_fixed}
use Rattle.form_mask.specs.Forms.{port_mask, rate}
use Rattle.form_mask.proofs.Back.{no-port, port-held}
use Rattle.form_mask.proofs.Laws.{lawful-port_mask, lawful-rate}
use Rattle.form_mask.proofs.Place.{prefix-port_mask, prefix-rate, told-port_mask, told-rate}
use Rattle.kind_pir_port.specs.Command.{pirpr_parts, pirpr_row, setting}
use Rattle.kind_pir_port.specs.Reply.{pirpa_parts, pirpa_row}
use Rattle.numbers.specs.Layout.{◌then◌}
use Rattle.form.specs.Numbers.{maybe_layout}

lawful-setting : (key : Bool) → Lawful (setting key)
lawful-setting key =
    let protocol = lawful-fixed 1 0 4 (lit≤ tt) (lit≤ tt) (lit< tt) in
    lawful-one (lawful-needed (fixed 1 0 4) protocol (λ g. refl) (λ g. refl) (no-range 0 4) (range-held 0 4) key)
    ⊳ lawful-one (lawful-needed port_mask lawful-port_mask (λ g. refl) (λ g. refl) no-port port-held key)

pub lawful-pirpr : Lawful pirpr_row
unfolding pirpr_row
lawful-pirpr =
    lawful-made _ _ pirpr_parts (λ v. refl) (λ r. refl) (lawful-one (lawful-fixed 1 0 1 (lit≤ tt) (lit≤ tt) (lit< tt))
    ⊳ lawful-depending 2 7 (maybe_layout then maybe_layout) (λ g. g.there) (λ m. m.there) (one rate) setting (λ k. refl) (λ k. lit≤ tt)
    (λ g. refl) (lawful-one lawful-rate) lawful-setting)

pub lawful-pirpa : Lawful pirpa_row
unfolding pirpa_row
lawful-pirpa =
    lawful-made _ _ pirpa_parts (λ v. refl) (λ r. refl) (lawful-one (lawful-exact 1 0 1 (lit≤ tt) (lit≤ tt) (lit< tt))
    ⊳ lawful-one (lawful-filled rate lawful-rate (λ g. refl) (λ g. refl))
    ⊳ lawful-one (lawful-exact 1 0 4 (lit≤ tt) (lit≤ tt) (lit< tt))
    ⊳ lawful-one (lawful-filled port_mask lawful-port_mask (λ g. refl) (λ g. refl)))

prefix-setting : (key : Bool) → Prefix (setting key)
prefix-setting key =
    let protocol = told_fixed 1 0 4 (lit≤ tt) (lit≤ tt) (lit< tt) (lit≤ tt) in
    prefix-one (prefix-needed (fixed 1 0 4) refl (prefix-fixed 1 0 4) (λ g. refl) protocol key)
    ⊩ prefix-one (prefix-needed port_mask refl prefix-port_mask (λ g. refl) told-port_mask key)

pub prefix-pirpr : Prefix pirpr_row
unfolding pirpr_row
prefix-pirpr =
    prefix-made _ _ pirpr_parts (λ v. refl) (prefix-one (prefix-fixed 1 0 1)
    ⊩ prefix-depending 2 7 (maybe_layout then maybe_layout) (λ g. g.there) (λ m. m.there) (one rate) setting (λ k. refl)
    (prefix-one prefix-rate) prefix-setting)

pub prefix-pirpa : Prefix pirpa_row
unfolding pirpa_row
prefix-pirpa =
    prefix-made _ _ pirpa_parts (λ v. refl) (prefix-one (prefix-exact 1 0 1 (lit≤ tt) (lit< tt) (lit≤ tt))
    ⊩ prefix-one (prefix-filled rate refl prefix-rate (λ g. refl) told-rate)
    ⊩ prefix-one (prefix-exact 1 0 4 (lit≤ tt) (lit< tt) (lit≤ tt))
    ⊩ prefix-one (prefix-filled port_mask refl prefix-port_mask (λ g. refl) told-port_mask))
