-- `count_of` meets its contract: each kind has as many numbers as its layout.
use Rattle.sentence.proofs.Numbered.{count_none}
use Rattle.kind_gga.specs.Row.{gga_layout, gga_row}
use Rattle.kind_gll.specs.Row.{gll_layout, gll_row}
use Rattle.kind_gsa.specs.Row.{gsa_layout}
use Rattle.kind_gsv.specs.Row.{gsv_layout}
use Rattle.kind_rmc.specs.Row.{rmc_layout, rmc_row}
use Rattle.kind_vtg.specs.Row.{vtg_layout, vtg_row}
use Rattle.kind_zda.specs.Row.{zda_layout, zda_row}
use Rattle.kind_pir_port.specs.Command.{pirpr_layout, pirpr_row}
use Rattle.kind_pir_datum.specs.Command.{pirtr_layout, pirtr_row}
use Rattle.kind_pir_masks.specs.Command.{pirsr_layout, pirsr_row}
use Rattle.kind_pir_port.specs.Reply.{pirpa_layout, pirpa_row}
use Rattle.kind_pir_datum.specs.Reply.{pirta_layout, pirta_row}
use Rattle.kind_pir_masks.specs.Reply.{pirsa_layout, pirsa_row}
use Rattle.kind_pir_code.specs.Reply.{pirea_layout, pirea_row}
use Rattle.sentence.proofs.count_of.Goals as goal

pub returns-in-1 : goal.returns-in-1
unfolding gga_layout gga_row
returns-in-1 c = rw c.in-1.is

pub returns-in-2 : goal.returns-in-2
unfolding gll_layout gll_row
returns-in-2 c = rw c.in-2.is

pub returns-in-3 : goal.returns-in-3
unfolding gsa_layout
returns-in-3 c = rw c.in-3.is

pub returns-in-4 : goal.returns-in-4
unfolding gsv_layout
returns-in-4 c = rw c.in-4.is

pub returns-in-5 : goal.returns-in-5
unfolding rmc_layout rmc_row
returns-in-5 c = rw c.in-5.is

pub returns-in-6 : goal.returns-in-6
unfolding vtg_layout vtg_row
returns-in-6 c = rw c.in-6.is

pub returns-in-7 : goal.returns-in-7
unfolding zda_layout zda_row
returns-in-7 c = rw c.in-7.is

pub returns-in-8 : goal.returns-in-8
unfolding pirpr_layout pirpr_row
returns-in-8 c = rw c.in-8.is

pub returns-in-9 : goal.returns-in-9
unfolding pirtr_layout pirtr_row
returns-in-9 c = rw c.in-9.is

pub returns-in-10 : goal.returns-in-10
unfolding pirsr_layout pirsr_row
returns-in-10 c = rw c.in-10.is

pub returns-in-11 : goal.returns-in-11
returns-in-11 c = rw c.in-11.is

pub returns-in-12 : goal.returns-in-12
unfolding pirpa_layout pirpa_row
returns-in-12 c = rw c.in-12.is

pub returns-in-13 : goal.returns-in-13
unfolding pirta_layout pirta_row
returns-in-13 c = rw c.in-13.is

pub returns-in-14 : goal.returns-in-14
unfolding pirsa_layout pirsa_row
returns-in-14 c = rw c.in-14.is

pub returns-in-15 : goal.returns-in-15
unfolding pirea_layout pirea_row
returns-in-15 c = rw c.in-15.is

pub returns-in_default : goal.returns-in_default
returns-in_default c = count_none c.args.kind c.in_default.in_default-own.rest
