-- A record of each kind: why it is refused, and its fields, which the one function that writes a record's line asks for; and that function. Any two
-- results that a contract permits are equal.
use Prim.Native.Nat.{ℕ}
use mathlib.Core.List.{◌++◌, List}
use Rattle.address.specs.declared.Talker.{Talker}
use Rattle.fields.specs.Fields.{join_fields}
use Rattle.frame.specs.Body.{talker_text}
use Rattle.frame.specs.Written.{fault_at}
use Rattle.frame.specs.declared.Written.{Written}
use Rattle.kind_pir_code.specs.Command.{pirer_fields}
use Rattle.kind_gga.specs.declared.Gga.{Gga}
use Rattle.kind_gga.specs.Row.{gga_fields, gga_wrong}
use Rattle.kind_gll.specs.declared.Gll.{Gll}
use Rattle.kind_gll.specs.Row.{gll_fields, gll_wrong}
use Rattle.kind_gsa.specs.declared.Gsa.{Gsa}
use Rattle.kind_gsa.specs.Row.{gsa_fields, gsa_wrong}
use Rattle.kind_gsv.specs.declared.Gsv.{Gsv}
use Rattle.kind_gsv.specs.Writing.{gsv_fields, gsv_fault}
use Rattle.kind_rmc.specs.declared.Rmc.{Rmc}
use Rattle.kind_rmc.specs.Row.{rmc_fields, rmc_wrong}
use Rattle.kind_vtg.specs.declared.Vtg.{Vtg}
use Rattle.kind_vtg.specs.Row.{vtg_fields, vtg_wrong}
use Rattle.kind_zda.specs.declared.Zda.{Zda}
use Rattle.kind_zda.specs.Row.{zda_fields, zda_wrong}
use Rattle.kind_pir_port.specs.declared.command.PortAsked.{PortAsked}
use Rattle.kind_pir_port.specs.Command.{pirpr_fields, pirpr_wrong}
use Rattle.kind_pir_datum.specs.declared.command.DatumAsked.{DatumAsked}
use Rattle.kind_pir_datum.specs.Command.{pirtr_fields, pirtr_wrong}
use Rattle.kind_pir_masks.specs.declared.command.MasksAsked.{MasksAsked}
use Rattle.kind_pir_masks.specs.Command.{pirsr_fields, pirsr_wrong}
use Rattle.kind_pir_port.specs.declared.reply.PortTold.{PortTold}
use Rattle.kind_pir_port.specs.Reply.{pirpa_fields, pirpa_wrong}
use Rattle.kind_pir_datum.specs.declared.reply.DatumTold.{DatumTold}
use Rattle.kind_pir_datum.specs.Reply.{pirta_fields, pirta_wrong}
use Rattle.kind_pir_masks.specs.declared.reply.MasksTold.{MasksTold}
use Rattle.kind_pir_masks.specs.Reply.{pirsa_fields, pirsa_wrong}
use Rattle.kind_pir_code.specs.declared.reply.CodeTold.{CodeTold}
use Rattle.kind_pir_code.specs.Reply.{pirea_fields, pirea_wrong}
use Rattle.claims.proofs.Determined.{One, one}
use Rattle.claims.proofs.DeterminedWriting.{OneFields, one-fields, OneWriting, one-writing}

pub write-standard : {R : Type 0} (fault : R → Written) (texts : R → List (List ℕ)) (out : List ℕ) (t : Talker) (kind : List ℕ) (r : R)
    → OneWriting (fault r) (join_fields (talker_text t ++ kind) (texts r)) out
write-standard fault texts out t kind r = one-writing (fault r) _ out

pub write-maker : {R : Type 0} (fault : R → Written) (texts : R → List (List ℕ)) (out : List ℕ) (address : List ℕ) (r : R)
    → OneWriting (fault r) (join_fields address (texts r)) out
write-maker fault texts out address r = one-writing (fault r) _ out

pub fault-pirer : One (fault_at 0)
fault-pirer = one

pub fields-pirer : (out : List ℕ) (at : ℕ) → OneFields out at pirer_fields
fields-pirer out at = one-fields out at pirer_fields

pub fault-gga : (r : Gga) → One (fault_at (gga_wrong r))
fault-gga r = one

pub fields-gga : (r : Gga) (out : List ℕ) (at : ℕ) → OneFields out at (gga_fields r)
fields-gga r out at = one-fields out at (gga_fields r)

pub fault-gll : (r : Gll) → One (fault_at (gll_wrong r))
fault-gll r = one

pub fields-gll : (r : Gll) (out : List ℕ) (at : ℕ) → OneFields out at (gll_fields r)
fields-gll r out at = one-fields out at (gll_fields r)

pub fault-gsa : (r : Gsa) → One (fault_at (gsa_wrong r))
fault-gsa r = one

pub fields-gsa : (r : Gsa) (out : List ℕ) (at : ℕ) → OneFields out at (gsa_fields r)
fields-gsa r out at = one-fields out at (gsa_fields r)

pub fault-gsv : (r : Gsv) → One (gsv_fault r)
fault-gsv r = one

pub fields-gsv : (r : Gsv) (out : List ℕ) (at : ℕ) → OneFields out at (gsv_fields r)
fields-gsv r out at = one-fields out at (gsv_fields r)

pub fault-rmc : (r : Rmc) → One (fault_at (rmc_wrong r))
fault-rmc r = one

pub fields-rmc : (r : Rmc) (out : List ℕ) (at : ℕ) → OneFields out at (rmc_fields r)
fields-rmc r out at = one-fields out at (rmc_fields r)

pub fault-vtg : (r : Vtg) → One (fault_at (vtg_wrong r))
fault-vtg r = one

pub fields-vtg : (r : Vtg) (out : List ℕ) (at : ℕ) → OneFields out at (vtg_fields r)
fields-vtg r out at = one-fields out at (vtg_fields r)

pub fault-zda : (r : Zda) → One (fault_at (zda_wrong r))
fault-zda r = one

pub fields-zda : (r : Zda) (out : List ℕ) (at : ℕ) → OneFields out at (zda_fields r)
fields-zda r out at = one-fields out at (zda_fields r)

pub fault-pirpr : (r : PortAsked) → One (fault_at (pirpr_wrong r))
fault-pirpr r = one

pub fields-pirpr : (r : PortAsked) (out : List ℕ) (at : ℕ) → OneFields out at (pirpr_fields r)
fields-pirpr r out at = one-fields out at (pirpr_fields r)

pub fault-pirtr : (r : DatumAsked) → One (fault_at (pirtr_wrong r))
fault-pirtr r = one

pub fields-pirtr : (r : DatumAsked) (out : List ℕ) (at : ℕ) → OneFields out at (pirtr_fields r)
fields-pirtr r out at = one-fields out at (pirtr_fields r)

pub fault-pirsr : (r : MasksAsked) → One (fault_at (pirsr_wrong r))
fault-pirsr r = one

pub fields-pirsr : (r : MasksAsked) (out : List ℕ) (at : ℕ) → OneFields out at (pirsr_fields r)
fields-pirsr r out at = one-fields out at (pirsr_fields r)

pub fault-pirpa : (r : PortTold) → One (fault_at (pirpa_wrong r))
fault-pirpa r = one

pub fields-pirpa : (r : PortTold) (out : List ℕ) (at : ℕ) → OneFields out at (pirpa_fields r)
fields-pirpa r out at = one-fields out at (pirpa_fields r)

pub fault-pirta : (r : DatumTold) → One (fault_at (pirta_wrong r))
fault-pirta r = one

pub fields-pirta : (r : DatumTold) (out : List ℕ) (at : ℕ) → OneFields out at (pirta_fields r)
fields-pirta r out at = one-fields out at (pirta_fields r)

pub fault-pirsa : (r : MasksTold) → One (fault_at (pirsa_wrong r))
fault-pirsa r = one

pub fields-pirsa : (r : MasksTold) (out : List ℕ) (at : ℕ) → OneFields out at (pirsa_fields r)
fields-pirsa r out at = one-fields out at (pirsa_fields r)

pub fault-pirea : (r : CodeTold) → One (fault_at (pirea_wrong r))
fault-pirea r = one

pub fields-pirea : (r : CodeTold) (out : List ℕ) (at : ℕ) → OneFields out at (pirea_fields r)
fields-pirea r out at = one-fields out at (pirea_fields r)
