-- What C and Rust call promises what host's function of the same name promises: clause by clause the two contracts are equal, by computing. So
-- what claims/Contracts says of host's clauses is said of those that are exported.
use seplogic.Ra.Ura.{Ura}
use base.Logic.{SProp}
use prog.Memory.{Memory}
use prog.Routine.{Routine}
use types.Logic.{Logic}
use contract.Lifetimes.{Lfts}
use contract.Monad.{Fun}
use mathlib.Core.Path.{◌≡◌, refl}
use Rattle.host.specs.contracts.commands.castanwel_start as host-start
use Rattle.host_c.specs.contracts.commands.castanwel_start as start
use Rattle.host.specs.contracts.commands.castanwel_step as host-step
use Rattle.host_c.specs.contracts.commands.castanwel_step as step
use Rattle.host.specs.contracts.commands.castanwel_counts as host-counts
use Rattle.host_c.specs.contracts.commands.castanwel_counts as counts
use Rattle.host.specs.contracts.cuts.castanwel_run_step as host-run-step
use Rattle.host_c.specs.contracts.cuts.castanwel_run_step as run-step
use Rattle.host.specs.contracts.groups.castanwel_read_group as host-read-group
use Rattle.host_c.specs.contracts.groups.castanwel_read_group as read-group
use Rattle.host.specs.contracts.groups.castanwel_write_group as host-write-group
use Rattle.host_c.specs.contracts.groups.castanwel_write_group as write-group
use Rattle.host.specs.contracts.indexes.castanwel_index_write as host-index-write
use Rattle.host_c.specs.contracts.indexes.castanwel_index_write as index-write
use Rattle.host.specs.contracts.indexes.castanwel_index_read as host-index-read
use Rattle.host_c.specs.contracts.indexes.castanwel_index_read as index-read
use Rattle.host.specs.contracts.indexes.castanwel_index_add as host-index-add
use Rattle.host_c.specs.contracts.indexes.castanwel_index_add as index-add
use Rattle.host.specs.contracts.indexes.castanwel_index_find as host-index-find
use Rattle.host_c.specs.contracts.indexes.castanwel_index_find as index-find
use Rattle.host.specs.contracts.castanwel_line_refusal as host-line-refusal
use Rattle.host_c.specs.contracts.castanwel_line_refusal as line-refusal
use Rattle.host.specs.contracts.castanwel_next_line as host-next-line
use Rattle.host_c.specs.contracts.castanwel_next_line as next-line
use Rattle.host.specs.contracts.castanwel_feed as host-feed
use Rattle.host_c.specs.contracts.castanwel_feed as feed
use Rattle.host.specs.contracts.castanwel_places as host-places
use Rattle.host_c.specs.contracts.castanwel_places as places
use Rattle.host.specs.contracts.castanwel_field as host-field
use Rattle.host_c.specs.contracts.castanwel_field as field
use Rattle.host.specs.contracts.castanwel_refusal as host-refusal
use Rattle.host_c.specs.contracts.castanwel_refusal as refusal
use Rattle.host.specs.contracts.sentences.castanwel_read as host-read
use Rattle.host_c.specs.contracts.sentences.castanwel_read as read
use Rattle.host.specs.contracts.sentences.castanwel_write as host-write
use Rattle.host_c.specs.contracts.sentences.castanwel_write as write

module _ {M : Type 1} {𝓤 : Ura M} (𝓛 : Logic 𝓤) (mem : Memory → SProp 𝓤) (run : Routine → Fun 𝓤) where
  pub start-same : (κs : Lfts 3)
      → (start.ensures-value 𝓛 κs mem run ≡ host-start.ensures-value 𝓛 κs mem run)
      × (start.ensures-line_after 𝓛 κs mem run ≡ host-start.ensures-line_after 𝓛 κs mem run)
      × (start.ensures-settings_after 𝓛 κs mem run ≡ host-start.ensures-settings_after 𝓛 κs mem run)
  start-same κs = (refl, refl, refl)

  pub step-same : (κs : Lfts 6)
      → (step.ensures-value 𝓛 κs mem run ≡ host-step.ensures-value 𝓛 κs mem run)
      × (step.ensures-length_after 𝓛 κs mem run ≡ host-step.ensures-length_after 𝓛 κs mem run)
      × (step.ensures-at_line_after 𝓛 κs mem run ≡ host-step.ensures-at_line_after 𝓛 κs mem run)
      × (step.ensures-field_after 𝓛 κs mem run ≡ host-step.ensures-field_after 𝓛 κs mem run)
      × (step.ensures-settings_after 𝓛 κs mem run ≡ host-step.ensures-settings_after 𝓛 κs mem run)
      × (step.ensures-out_after 𝓛 κs mem run ≡ host-step.ensures-out_after 𝓛 κs mem run)
  step-same κs = (refl, refl, refl, refl, refl, refl)

  pub counts-same : (κs : Lfts 5)
      → (counts.ensures-value 𝓛 κs mem run ≡ host-counts.ensures-value 𝓛 κs mem run)
      × (counts.ensures-gps_after 𝓛 κs mem run ≡ host-counts.ensures-gps_after 𝓛 κs mem run)
      × (counts.ensures-glonass_after 𝓛 κs mem run ≡ host-counts.ensures-glonass_after 𝓛 κs mem run)
      × (counts.ensures-line_after 𝓛 κs mem run ≡ host-counts.ensures-line_after 𝓛 κs mem run)
      × (counts.ensures-field_after 𝓛 κs mem run ≡ host-counts.ensures-field_after 𝓛 κs mem run)
  counts-same κs = (refl, refl, refl, refl, refl)

  pub run-step-same : (κs : Lfts 5)
      → (run-step.ensures-value 𝓛 κs mem run ≡ host-run-step.ensures-value 𝓛 κs mem run)
      × (run-step.ensures-before_after 𝓛 κs mem run ≡ host-run-step.ensures-before_after 𝓛 κs mem run)
      × (run-step.ensures-ends_after 𝓛 κs mem run ≡ host-run-step.ensures-ends_after 𝓛 κs mem run)
      × (run-step.ensures-lines_after 𝓛 κs mem run ≡ host-run-step.ensures-lines_after 𝓛 κs mem run)
      × (run-step.ensures-last_after 𝓛 κs mem run ≡ host-run-step.ensures-last_after 𝓛 κs mem run)
  run-step-same κs = (refl, refl, refl, refl, refl)

  pub read-group-same : (κs : Lfts 4)
      → (read-group.ensures-value 𝓛 κs mem run ≡ host-read-group.ensures-value 𝓛 κs mem run)
      × (read-group.ensures-line_after 𝓛 κs mem run ≡ host-read-group.ensures-line_after 𝓛 κs mem run)
      × (read-group.ensures-field_after 𝓛 κs mem run ≡ host-read-group.ensures-field_after 𝓛 κs mem run)
      × (read-group.ensures-numbers_after 𝓛 κs mem run ≡ host-read-group.ensures-numbers_after 𝓛 κs mem run)
  read-group-same κs = (refl, refl, refl, refl)

  pub write-group-same : (κs : Lfts 5)
      → (write-group.ensures-value 𝓛 κs mem run ≡ host-write-group.ensures-value 𝓛 κs mem run)
      × (write-group.ensures-length_after 𝓛 κs mem run ≡ host-write-group.ensures-length_after 𝓛 κs mem run)
      × (write-group.ensures-line_after 𝓛 κs mem run ≡ host-write-group.ensures-line_after 𝓛 κs mem run)
      × (write-group.ensures-field_after 𝓛 κs mem run ≡ host-write-group.ensures-field_after 𝓛 κs mem run)
      × (write-group.ensures-out_after 𝓛 κs mem run ≡ host-write-group.ensures-out_after 𝓛 κs mem run)
  write-group-same κs = (refl, refl, refl, refl, refl)

  pub index-write-same : (κs : Lfts 5)
      → (index-write.ensures-value 𝓛 κs mem run ≡ host-index-write.ensures-value 𝓛 κs mem run)
      × (index-write.ensures-size_after 𝓛 κs mem run ≡ host-index-write.ensures-size_after 𝓛 κs mem run)
      × (index-write.ensures-line_after 𝓛 κs mem run ≡ host-index-write.ensures-line_after 𝓛 κs mem run)
      × (index-write.ensures-field_after 𝓛 κs mem run ≡ host-index-write.ensures-field_after 𝓛 κs mem run)
      × (index-write.ensures-out_after 𝓛 κs mem run ≡ host-index-write.ensures-out_after 𝓛 κs mem run)
  index-write-same κs = (refl, refl, refl, refl, refl)

  pub index-read-same : (κs : Lfts 5)
      → (index-read.ensures-value 𝓛 κs mem run ≡ host-index-read.ensures-value 𝓛 κs mem run)
      × (index-read.ensures-count_after 𝓛 κs mem run ≡ host-index-read.ensures-count_after 𝓛 κs mem run)
      × (index-read.ensures-line_after 𝓛 κs mem run ≡ host-index-read.ensures-line_after 𝓛 κs mem run)
      × (index-read.ensures-field_after 𝓛 κs mem run ≡ host-index-read.ensures-field_after 𝓛 κs mem run)
      × (index-read.ensures-entries_after 𝓛 κs mem run ≡ host-index-read.ensures-entries_after 𝓛 κs mem run)
  index-read-same κs = (refl, refl, refl, refl, refl)

  pub index-add-same : (κs : Lfts 4)
      → (index-add.ensures-value 𝓛 κs mem run ≡ host-index-add.ensures-value 𝓛 κs mem run)
      × (index-add.ensures-after_after 𝓛 κs mem run ≡ host-index-add.ensures-after_after 𝓛 κs mem run)
      × (index-add.ensures-line_after 𝓛 κs mem run ≡ host-index-add.ensures-line_after 𝓛 κs mem run)
      × (index-add.ensures-field_after 𝓛 κs mem run ≡ host-index-add.ensures-field_after 𝓛 κs mem run)
      × (index-add.ensures-index_after 𝓛 κs mem run ≡ host-index-add.ensures-index_after 𝓛 κs mem run)
  index-add-same κs = (refl, refl, refl, refl, refl)

  pub index-find-same : (κs : Lfts 5)
      → (index-find.ensures-value 𝓛 κs mem run ≡ host-index-find.ensures-value 𝓛 κs mem run)
      × (index-find.ensures-offset_after 𝓛 κs mem run ≡ host-index-find.ensures-offset_after 𝓛 κs mem run)
      × (index-find.ensures-size_after 𝓛 κs mem run ≡ host-index-find.ensures-size_after 𝓛 κs mem run)
      × (index-find.ensures-line_after 𝓛 κs mem run ≡ host-index-find.ensures-line_after 𝓛 κs mem run)
      × (index-find.ensures-field_after 𝓛 κs mem run ≡ host-index-find.ensures-field_after 𝓛 κs mem run)
  index-find-same κs = (refl, refl, refl, refl, refl)

  pub line-refusal-same : (κs : Lfts 1)
      → line-refusal.ensures-1 𝓛 κs mem run ≡ host-line-refusal.ensures-1 𝓛 κs mem run
  line-refusal-same κs = refl

  pub next-line-same : (κs : Lfts 3)
      → (next-line.ensures-value 𝓛 κs mem run ≡ host-next-line.ensures-value 𝓛 κs mem run)
      × (next-line.ensures-start_after 𝓛 κs mem run ≡ host-next-line.ensures-start_after 𝓛 κs mem run)
      × (next-line.ensures-end_after 𝓛 κs mem run ≡ host-next-line.ensures-end_after 𝓛 κs mem run)
  next-line-same κs = (refl, refl, refl)

  pub feed-same : (κs : Lfts 1)
      → (feed.ensures-value 𝓛 κs mem run ≡ host-feed.ensures-value 𝓛 κs mem run)
      × (feed.ensures-line_after 𝓛 κs mem run ≡ host-feed.ensures-line_after 𝓛 κs mem run)
  feed-same κs = (refl, refl)

  pub places-same : (κs : Lfts 2)
      → places.ensures-1 𝓛 κs mem run ≡ host-places.ensures-1 𝓛 κs mem run
  places-same κs = refl

  pub field-same : (κs : Lfts 5)
      → (field.ensures-value 𝓛 κs mem run ≡ host-field.ensures-value 𝓛 κs mem run)
      × (field.ensures-start_after 𝓛 κs mem run ≡ host-field.ensures-start_after 𝓛 κs mem run)
      × (field.ensures-end_after 𝓛 κs mem run ≡ host-field.ensures-end_after 𝓛 κs mem run)
      × (field.ensures-at_line_after 𝓛 κs mem run ≡ host-field.ensures-at_line_after 𝓛 κs mem run)
      × (field.ensures-field_after 𝓛 κs mem run ≡ host-field.ensures-field_after 𝓛 κs mem run)
  field-same κs = (refl, refl, refl, refl, refl)

  pub refusal-same : (κs : Lfts 3)
      → (refusal.ensures-value 𝓛 κs mem run ≡ host-refusal.ensures-value 𝓛 κs mem run)
      × (refusal.ensures-at_line_after 𝓛 κs mem run ≡ host-refusal.ensures-at_line_after 𝓛 κs mem run)
      × (refusal.ensures-field_after 𝓛 κs mem run ≡ host-refusal.ensures-field_after 𝓛 κs mem run)
  refusal-same κs = (refl, refl, refl)

  pub read-same : (κs : Lfts 5)
      → (read.ensures-value 𝓛 κs mem run ≡ host-read.ensures-value 𝓛 κs mem run)
      × (read.ensures-kind_after 𝓛 κs mem run ≡ host-read.ensures-kind_after 𝓛 κs mem run)
      × (read.ensures-at_line_after 𝓛 κs mem run ≡ host-read.ensures-at_line_after 𝓛 κs mem run)
      × (read.ensures-field_after 𝓛 κs mem run ≡ host-read.ensures-field_after 𝓛 κs mem run)
      × (read.ensures-numbers_after 𝓛 κs mem run ≡ host-read.ensures-numbers_after 𝓛 κs mem run)
  read-same κs = (refl, refl, refl, refl, refl)

  pub write-same : (κs : Lfts 5)
      → (write.ensures-value 𝓛 κs mem run ≡ host-write.ensures-value 𝓛 κs mem run)
      × (write.ensures-length_after 𝓛 κs mem run ≡ host-write.ensures-length_after 𝓛 κs mem run)
      × (write.ensures-line_after 𝓛 κs mem run ≡ host-write.ensures-line_after 𝓛 κs mem run)
      × (write.ensures-field_after 𝓛 κs mem run ≡ host-write.ensures-field_after 𝓛 κs mem run)
      × (write.ensures-out_after 𝓛 κs mem run ≡ host-write.ensures-out_after 𝓛 κs mem run)
  write-same κs = (refl, refl, refl, refl, refl)
