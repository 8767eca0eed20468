-- What a line comes to: which kind of sentence it is, with its talker and its record, or the number of its refusal and the field.
use Rattle.std.specs.Prelude.{ℕ}
use Rattle.address.specs.declared.Talker.{Talker}
use Rattle.kind_gga.specs.declared.Gga as TheGga
use Rattle.kind_gll.specs.declared.Gll as TheGll
use Rattle.kind_gsa.specs.declared.Gsa as TheGsa
use Rattle.kind_gsv.specs.declared.Gsv as TheGsv
use Rattle.kind_rmc.specs.declared.Rmc as TheRmc
use Rattle.kind_vtg.specs.declared.Vtg as TheVtg
use Rattle.kind_zda.specs.declared.Zda as TheZda
use Rattle.kind_pir_port.specs.declared.command.PortAsked.{PortAsked}
use Rattle.kind_pir_datum.specs.declared.command.DatumAsked.{DatumAsked}
use Rattle.kind_pir_masks.specs.declared.command.MasksAsked.{MasksAsked}
use Rattle.kind_pir_port.specs.declared.reply.PortTold.{PortTold}
use Rattle.kind_pir_datum.specs.declared.reply.DatumTold.{DatumTold}
use Rattle.kind_pir_masks.specs.declared.reply.MasksTold.{MasksTold}
use Rattle.kind_pir_code.specs.declared.reply.CodeTold.{CodeTold}

pub data Sentence : Type 0 where
  Gga : Talker → TheGga.Gga → Sentence
  Gll : Talker → TheGll.Gll → Sentence
  Gsa : Talker → TheGsa.Gsa → Sentence
  Gsv : Talker → TheGsv.Gsv → Sentence
  Rmc : Talker → TheRmc.Rmc → Sentence
  Vtg : Talker → TheVtg.Vtg → Sentence
  Zda : Talker → TheZda.Zda → Sentence
  Pr : PortAsked → Sentence
  Tr : DatumAsked → Sentence
  Sr : MasksAsked → Sentence
  Er : Sentence
  Pa : PortTold → Sentence
  Ta : DatumTold → Sentence
  Sa : MasksTold → Sentence
  Ea : CodeTold → Sentence
  Refused : ℕ → ℕ → Sentence
