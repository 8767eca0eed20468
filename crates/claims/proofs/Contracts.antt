-- What a host calls has the contracts that the claims are made of: each clause of each exported function, by the name that the kit gives
-- it, is the fact beside it, by computing; so a clause that says less is not admitted here. What is bound is each value that is passed,
-- then each at entry and at exit, then the result.
use seplogic.Ra.Ura.{Ura}
use base.Logic.{SProp}
use prog.Memory.{Memory}
use prog.Routine.{Routine}
use types.Logic.{Logic}
use contract.Lifetimes.{Lfts}
use contract.Monad.{fact, Fun}
use mathlib.Core.Path.{◌≡◌, refl}
use lib.ListN.{length}
use Rattle.fields.specs.Places.{Placed}
use Rattle.fields.specs.FieldN.{field_at}
use Rattle.finder.specs.Finder.{ends_here, held_next}
use Rattle.finder.specs.Slice.{found_at}
use Rattle.host.specs.Answer.{set_at, single_line}
use Rattle.host.specs.Command.{counts_at, start_no, stepped}
use Rattle.host.specs.Group.{group_put, handed}
use Rattle.host.specs.Index.{entry_with}
use Rattle.index.specs.Answers.{added_index, found_in, laid_for as laid_entries, left_added, left_index, listed_for, written_index}
use Rattle.index.specs.Index.{read_index}
use Rattle.line.specs.Line.{line_refusal}
use Rattle.numbers.specs.Numbers.{laid}
use Rattle.receiver.specs.Settings.{at_start}
use Rattle.receiver_numbers.specs.Numbers.{setting_numbers}
use Rattle.runs.specs.Runs.{says_of}
use Rattle.runs.specs.Step.{open_of, step_of}
use Rattle.sentence.specs.FromHost.{left_as, written_as}
use Rattle.sentence.specs.Lines.{read_line, refusal_of}
use Rattle.sentence.specs.ToHost.{laid_for, told_for}
use Rattle.sky.specs.Group.{group_of}
use Rattle.host.specs.contracts.castanwel_line_refusal as line-refusal
use Rattle.host.specs.contracts.castanwel_next_line as next-line
use Rattle.host.specs.contracts.castanwel_feed as feed
use Rattle.host.specs.contracts.castanwel_places as places
use Rattle.host.specs.contracts.castanwel_field as field
use Rattle.host.specs.contracts.castanwel_refusal as refusal
use Rattle.host.specs.contracts.commands.castanwel_start as start
use Rattle.host.specs.contracts.commands.castanwel_step as step
use Rattle.host.specs.contracts.commands.castanwel_counts as counts
use Rattle.host.specs.contracts.cuts.castanwel_run_step as run-step
use Rattle.host.specs.contracts.groups.castanwel_read_group as read-group
use Rattle.host.specs.contracts.groups.castanwel_write_group as write-group
use Rattle.host.specs.contracts.indexes.castanwel_index_write as index-write
use Rattle.host.specs.contracts.indexes.castanwel_index_read as index-read
use Rattle.host.specs.contracts.indexes.castanwel_index_add as index-add
use Rattle.host.specs.contracts.indexes.castanwel_index_find as index-find
use Rattle.host.specs.contracts.sentences.castanwel_read as read
use Rattle.host.specs.contracts.sentences.castanwel_write as write

module _ {M : Type 1} {𝓤 : Ura M} (𝓛 : Logic 𝓤) (mem : Memory → SProp 𝓤) (run : Routine → Fun 𝓤) where
  pub line-refusal-says : (κs : Lfts 1)
      → line-refusal.ensures-1 𝓛 κs mem run ≡ (λ _ line' r. fact 𝓤 (r ≡ line_refusal line'.entry.now))
  line-refusal-says κs = refl

  pub next-line-says : (κs : Lfts 3)
      → (next-line.ensures-value 𝓛 κs mem run ≡ (λ _ at _ _ s' _ _ _ r. fact 𝓤 (r ≡ (found_at s'.entry.now at).line)))
      × (next-line.ensures-start_after 𝓛 κs mem run
      ≡ (λ _ at _ _ s' _ start' _ _. fact 𝓤 (start'.exit.now ≡ (found_at s'.entry.now at).start)))
      × (next-line.ensures-end_after 𝓛 κs mem run ≡ (λ _ at _ _ s' _ _ end' _. fact 𝓤 (end'.exit.now ≡ (found_at s'.entry.now at).end)))
  next-line-says κs = (refl, refl, refl)

  pub feed-says : (κs : Lfts 1)
      → (feed.ensures-value 𝓛 κs mem run ≡ (λ held b _ _ _ _ r. fact 𝓤 (r ≡ held_next held b)))
      × (feed.ensures-line_after 𝓛 κs mem run ≡ (λ held b _ _ _ line' _. fact 𝓤 (line'.exit.now ≡ ends_here held b)))
  feed-says κs = (refl, refl)

  pub places-says : (κs : Lfts 2)
      → places.ensures-1 𝓛 κs mem run
      ≡ (λ _ _ body' ends' r. fact 𝓤 (Placed body'.entry.now ends'.entry.now r ends'.exit.now))
  places-says κs = refl

  pub field-says : (κs : Lfts 5)
      → (field.ensures-value 𝓛 κs mem run ≡ (λ _ n _ _ _ _ line' _ _ _ _ _ r. fact 𝓤 (r ≡ (field_at line'.entry.now n).no)))
      × (field.ensures-start_after 𝓛 κs mem run
      ≡ (λ _ n _ _ _ _ line' _ start' _ _ _ _. fact 𝓤
      (start'.exit.now ≡ set_at (field_at line'.entry.now n).no (field_at line'.entry.now n).start start'.entry.now)))
      × (field.ensures-end_after 𝓛 κs mem run
      ≡ (λ _ n _ _ _ _ line' _ _ end' _ _ _. fact 𝓤
      (end'.exit.now ≡ set_at (field_at line'.entry.now n).no (field_at line'.entry.now n).end end'.entry.now)))
      × (field.ensures-at_line_after 𝓛 κs mem run
      ≡ (λ _ n _ _ _ _ line' _ _ _ at-line' _ _. fact 𝓤 (at-line'.exit.now ≡ single_line (field_at line'.entry.now n).no)))
      × (field.ensures-field_after 𝓛 κs mem run ≡ (λ _ _ _ _ _ _ _ _ _ _ _ field' _. fact 𝓤 (field'.exit.now ≡ 0)))
  field-says κs = (refl, refl, refl, refl, refl)

  pub refusal-says : (κs : Lfts 3)
      → (refusal.ensures-value 𝓛 κs mem run ≡ (λ _ _ _ line' _ _ r. fact 𝓤 (r ≡ (refusal_of (read_line line'.entry.now)).no)))
      × (refusal.ensures-at_line_after 𝓛 κs mem run
      ≡ (λ _ _ _ line' at-line' _ _. fact 𝓤 (at-line'.exit.now ≡ single_line (refusal_of (read_line line'.entry.now)).no)))
      × (refusal.ensures-field_after 𝓛 κs mem run
      ≡ (λ _ _ _ line' _ field' _. fact 𝓤 (field'.exit.now ≡ (refusal_of (read_line line'.entry.now)).field)))
  refusal-says κs = (refl, refl, refl)

  pub start-says : (κs : Lfts 3)
      → (start.ensures-value 𝓛 κs mem run ≡ (λ _ _ _ settings' _ _ r. fact 𝓤 (r ≡ start_no settings'.entry.now)))
      × (start.ensures-line_after 𝓛 κs mem run ≡ (λ _ _ _ _ line' field' _. fact 𝓤 ((line'.exit.now ≡ 0) × (field'.exit.now ≡ 0))))
      × (start.ensures-settings_after 𝓛 κs mem run
      ≡ (λ _ _ _ settings' _ _ _. fact 𝓤 (settings'.exit.now ≡ laid (setting_numbers at_start) settings'.entry.now)))
  start-says κs = (refl, refl, refl)

  pub step-says : (κs : Lfts 6)
      → (step.ensures-value 𝓛 κs mem run
      ≡ (λ _ arrival _ _ _ _ _ settings' _ line' out' _ _ _ r. fact 𝓤
      (r ≡ (stepped settings'.entry.now arrival line'.entry.now out'.entry.now).answer.no)))
      × (step.ensures-length_after 𝓛 κs mem run
      ≡ (λ _ arrival _ _ _ _ _ settings' _ line' out' length' _ _ _. fact 𝓤 (length'.exit.now
      ≡ set_at (stepped settings'.entry.now arrival line'.entry.now out'.entry.now).answer.no
      (stepped settings'.entry.now arrival line'.entry.now out'.entry.now).answer.length length'.entry.now)))
      × (step.ensures-at_line_after 𝓛 κs mem run
      ≡ (λ _ arrival _ _ _ _ _ settings' _ line' out' _ at-line' _ _. fact 𝓤
      (at-line'.exit.now ≡ (stepped settings'.entry.now arrival line'.entry.now out'.entry.now).answer.line)))
      × (step.ensures-field_after 𝓛 κs mem run
      ≡ (λ _ arrival _ _ _ _ _ settings' _ line' out' _ _ field' _. fact 𝓤
      (field'.exit.now ≡ (stepped settings'.entry.now arrival line'.entry.now out'.entry.now).answer.field)))
      × (step.ensures-settings_after 𝓛 κs mem run
      ≡ (λ _ arrival _ _ _ _ _ settings' _ line' out' _ _ _ _. fact 𝓤
      (settings'.exit.now ≡ (stepped settings'.entry.now arrival line'.entry.now out'.entry.now).numbers)))
      × (step.ensures-out_after 𝓛 κs mem run
      ≡ (λ _ arrival _ _ _ _ _ settings' _ line' out' _ _ _ _. fact 𝓤
      (out'.exit.now ≡ (stepped settings'.entry.now arrival line'.entry.now out'.entry.now).out)))
  step-says κs = (refl, refl, refl, refl, refl, refl)

  pub counts-says : (κs : Lfts 5)
      → (counts.ensures-value 𝓛 κs mem run ≡ (λ _ _ _ _ _ settings' _ _ _ _ r. fact 𝓤 (r ≡ (counts_at settings'.entry.now).no)))
      × (counts.ensures-gps_after 𝓛 κs mem run
      ≡ (λ _ _ _ _ _ settings' gps' _ _ _ _. fact 𝓤
      (gps'.exit.now ≡ set_at (counts_at settings'.entry.now).no (counts_at settings'.entry.now).gps gps'.entry.now)))
      × (counts.ensures-glonass_after 𝓛 κs mem run
      ≡ (λ _ _ _ _ _ settings' _ glonass' _ _ _. fact 𝓤 (glonass'.exit.now
      ≡ set_at (counts_at settings'.entry.now).no (counts_at settings'.entry.now).glonass glonass'.entry.now)))
      × (counts.ensures-line_after 𝓛 κs mem run
      ≡ (λ _ _ _ _ _ settings' _ _ line' _ _. fact 𝓤 (line'.exit.now ≡ (counts_at settings'.entry.now).line)))
      × (counts.ensures-field_after 𝓛 κs mem run
      ≡ (λ _ _ _ _ _ settings' _ _ _ field' _. fact 𝓤 (field'.exit.now ≡ (counts_at settings'.entry.now).field)))
  counts-says κs = (refl, refl, refl, refl, refl)

  pub read-group-says : (κs : Lfts 4)
      → (read-group.ensures-value 𝓛 κs mem run
      ≡ (λ _ _ _ _ s' numbers' _ _ r. fact 𝓤 (r ≡ (handed (group_of s'.entry.now) numbers'.entry.now).no)))
      × (read-group.ensures-line_after 𝓛 κs mem run
      ≡ (λ _ _ _ _ s' numbers' line' _ _. fact 𝓤 (line'.exit.now ≡ (handed (group_of s'.entry.now) numbers'.entry.now).line)))
      × (read-group.ensures-field_after 𝓛 κs mem run
      ≡ (λ _ _ _ _ s' numbers' _ field' _. fact 𝓤
      (field'.exit.now ≡ (handed (group_of s'.entry.now) numbers'.entry.now).field)))
      × (read-group.ensures-numbers_after 𝓛 κs mem run
      ≡ (λ _ _ _ _ s' numbers' _ _ _. fact 𝓤
      (numbers'.exit.now ≡ (handed (group_of s'.entry.now) numbers'.entry.now).numbers)))
  read-group-says κs = (refl, refl, refl, refl)

  pub write-group-says : (κs : Lfts 5)
      → (write-group.ensures-value 𝓛 κs mem run
      ≡ (λ _ _ _ _ _ numbers' out' _ _ _ r. fact 𝓤 (r ≡ (group_put numbers'.entry.now out'.entry.now).answer.no)))
      × (write-group.ensures-length_after 𝓛 κs mem run
      ≡ (λ _ _ _ _ _ numbers' out' length' _ _ _. fact 𝓤 (length'.exit.now
      ≡ set_at (group_put numbers'.entry.now out'.entry.now).answer.no
      (group_put numbers'.entry.now out'.entry.now).answer.length length'.entry.now)))
      × (write-group.ensures-line_after 𝓛 κs mem run
      ≡ (λ _ _ _ _ _ numbers' out' _ line' _ _. fact 𝓤
      (line'.exit.now ≡ (group_put numbers'.entry.now out'.entry.now).answer.line)))
      × (write-group.ensures-field_after 𝓛 κs mem run
      ≡ (λ _ _ _ _ _ numbers' out' _ _ field' _. fact 𝓤
      (field'.exit.now ≡ (group_put numbers'.entry.now out'.entry.now).answer.field)))
      × (write-group.ensures-out_after 𝓛 κs mem run
      ≡ (λ _ _ _ _ _ numbers' out' _ _ _ _. fact 𝓤 (out'.exit.now ≡ (group_put numbers'.entry.now out'.entry.now).out)))
  write-group-says κs = (refl, refl, refl, refl, refl)

  pub index-write-says : (κs : Lfts 5)
      → (index-write.ensures-value 𝓛 κs mem run
      ≡ (λ _ _ _ _ _ entries' out' _ _ _ r. fact 𝓤 (r ≡ (written_index entries'.entry.now (length out'.entry.now)).no)))
      × (index-write.ensures-size_after 𝓛 κs mem run
      ≡ (λ _ _ _ _ _ entries' out' size' _ _ _. fact 𝓤 (size'.exit.now
      ≡ set_at (written_index entries'.entry.now (length out'.entry.now)).no
      (written_index entries'.entry.now (length out'.entry.now)).length size'.entry.now)))
      × (index-write.ensures-line_after 𝓛 κs mem run
      ≡ (λ _ _ _ _ _ entries' out' _ line' _ _. fact 𝓤
      (line'.exit.now ≡ (written_index entries'.entry.now (length out'.entry.now)).line)))
      × (index-write.ensures-field_after 𝓛 κs mem run
      ≡ (λ _ _ _ _ _ entries' out' _ _ field' _. fact 𝓤
      (field'.exit.now ≡ (written_index entries'.entry.now (length out'.entry.now)).field)))
      × (index-write.ensures-out_after 𝓛 κs mem run
      ≡ (λ _ _ _ _ _ entries' out' _ _ _ _. fact 𝓤 (out'.exit.now ≡ left_index entries'.entry.now out'.entry.now)))
  index-write-says κs = (refl, refl, refl, refl, refl)

  pub index-read-says : (κs : Lfts 5)
      → (index-read.ensures-value 𝓛 κs mem run
      ≡ (λ _ _ _ _ _ index' entries' _ _ _ r. fact 𝓤
      (r ≡ (listed_for (read_index index'.entry.now) (length entries'.entry.now)).no)))
      × (index-read.ensures-count_after 𝓛 κs mem run
      ≡ (λ _ _ _ _ _ index' entries' count' _ _ _. fact 𝓤 (count'.exit.now
      ≡ set_at (listed_for (read_index index'.entry.now) (length entries'.entry.now)).no
      (listed_for (read_index index'.entry.now) (length entries'.entry.now)).count count'.entry.now)))
      × (index-read.ensures-line_after 𝓛 κs mem run
      ≡ (λ _ _ _ _ _ index' entries' _ line' _ _. fact 𝓤
      (line'.exit.now ≡ (listed_for (read_index index'.entry.now) (length entries'.entry.now)).line)))
      × (index-read.ensures-field_after 𝓛 κs mem run
      ≡ (λ _ _ _ _ _ index' entries' _ _ field' _. fact 𝓤
      (field'.exit.now ≡ (listed_for (read_index index'.entry.now) (length entries'.entry.now)).field)))
      × (index-read.ensures-entries_after 𝓛 κs mem run
      ≡ (λ _ _ _ _ _ index' entries' _ _ _ _. fact 𝓤
      (entries'.exit.now ≡ laid_entries (read_index index'.entry.now) entries'.entry.now)))
  index-read-says κs = (refl, refl, refl, refl, refl)

  pub index-add-says : (κs : Lfts 4)
      → (index-add.ensures-value 𝓛 κs mem run
      ≡ (λ _ used number offset size _ _ _ index' _ _ _ _ _ _ _ r. fact 𝓤
      (r ≡ (added_index index'.entry.now used (entry_with number offset size)).no)))
      × (index-add.ensures-after_after 𝓛 κs mem run
      ≡ (λ _ used number offset size _ _ _ index' _ _ _ _ after' _ _ _. fact 𝓤 (after'.exit.now
      ≡ set_at (added_index index'.entry.now used (entry_with number offset size)).no
      (added_index index'.entry.now used (entry_with number offset size)).length after'.entry.now)))
      × (index-add.ensures-line_after 𝓛 κs mem run
      ≡ (λ _ used number offset size _ _ _ index' _ _ _ _ _ line' _ _. fact 𝓤
      (line'.exit.now ≡ (added_index index'.entry.now used (entry_with number offset size)).line)))
      × (index-add.ensures-field_after 𝓛 κs mem run
      ≡ (λ _ used number offset size _ _ _ index' _ _ _ _ _ _ field' _. fact 𝓤
      (field'.exit.now ≡ (added_index index'.entry.now used (entry_with number offset size)).field)))
      × (index-add.ensures-index_after 𝓛 κs mem run
      ≡ (λ _ used number offset size _ _ _ index' _ _ _ _ _ _ _ _. fact 𝓤
      (index'.exit.now ≡ left_added index'.entry.now used (entry_with number offset size))))
  index-add-says κs = (refl, refl, refl, refl, refl)

  pub index-find-says : (κs : Lfts 5)
      → (index-find.ensures-value 𝓛 κs mem run
      ≡ (λ _ number _ _ _ _ index' _ _ _ _ _ r. fact 𝓤 (r ≡ (found_in number (read_index index'.entry.now)).no)))
      × (index-find.ensures-offset_after 𝓛 κs mem run
      ≡ (λ _ number _ _ _ _ index' _ offset' _ _ _ _. fact 𝓤 (offset'.exit.now
      ≡ set_at (found_in number (read_index index'.entry.now)).no
      (found_in number (read_index index'.entry.now)).offset offset'.entry.now)))
      × (index-find.ensures-size_after 𝓛 κs mem run
      ≡ (λ _ number _ _ _ _ index' _ _ size' _ _ _. fact 𝓤 (size'.exit.now
      ≡ set_at (found_in number (read_index index'.entry.now)).no
      (found_in number (read_index index'.entry.now)).length size'.entry.now)))
      × (index-find.ensures-line_after 𝓛 κs mem run
      ≡ (λ _ number _ _ _ _ index' _ _ _ line' _ _. fact 𝓤 (line'.exit.now ≡ (found_in number (read_index index'.entry.now)).line)))
      × (index-find.ensures-field_after 𝓛 κs mem run
      ≡ (λ _ number _ _ _ _ index' _ _ _ _ field' _. fact 𝓤
      (field'.exit.now ≡ (found_in number (read_index index'.entry.now)).field)))
  index-find-says κs = (refl, refl, refl, refl, refl)

  pub read-says : (κs : Lfts 5)
      → (read.ensures-value 𝓛 κs mem run
      ≡ (λ _ _ _ _ _ line' numbers' _ _ _ r. fact 𝓤 (r ≡ (told_for (read_line line'.entry.now) numbers'.entry.now).no)))
      × (read.ensures-kind_after 𝓛 κs mem run
      ≡ (λ _ _ _ _ _ line' numbers' kind' _ _ _. fact 𝓤 (kind'.exit.now
      ≡ set_at (told_for (read_line line'.entry.now) numbers'.entry.now).no
      (told_for (read_line line'.entry.now) numbers'.entry.now).kind kind'.entry.now)))
      × (read.ensures-at_line_after 𝓛 κs mem run
      ≡ (λ _ _ _ _ _ line' numbers' _ at-line' _ _. fact 𝓤
      (at-line'.exit.now ≡ single_line (told_for (read_line line'.entry.now) numbers'.entry.now).no)))
      × (read.ensures-field_after 𝓛 κs mem run
      ≡ (λ _ _ _ _ _ line' numbers' _ _ field' _. fact 𝓤
      (field'.exit.now ≡ (told_for (read_line line'.entry.now) numbers'.entry.now).field)))
      × (read.ensures-numbers_after 𝓛 κs mem run
      ≡ (λ _ _ _ _ _ line' numbers' _ _ _ _. fact 𝓤
      (numbers'.exit.now ≡ laid_for (read_line line'.entry.now) numbers'.entry.now)))
  read-says κs = (refl, refl, refl, refl, refl)

  pub write-says : (κs : Lfts 5)
      → (write.ensures-value 𝓛 κs mem run
      ≡ (λ kind _ _ _ _ _ _ numbers' out' _ _ _ r. fact 𝓤 (r ≡ (written_as kind numbers'.entry.now out'.entry.now).no)))
      × (write.ensures-length_after 𝓛 κs mem run
      ≡ (λ kind _ _ _ _ _ _ numbers' out' length' _ _ _. fact 𝓤 (length'.exit.now
      ≡ set_at (written_as kind numbers'.entry.now out'.entry.now).no
      (written_as kind numbers'.entry.now out'.entry.now).length length'.entry.now)))
      × (write.ensures-line_after 𝓛 κs mem run
      ≡ (λ kind _ _ _ _ _ _ numbers' out' _ line' _ _. fact 𝓤
      (line'.exit.now ≡ (written_as kind numbers'.entry.now out'.entry.now).line)))
      × (write.ensures-field_after 𝓛 κs mem run
      ≡ (λ kind _ _ _ _ _ _ numbers' out' _ _ field' _. fact 𝓤
      (field'.exit.now ≡ (written_as kind numbers'.entry.now out'.entry.now).field)))
      × (write.ensures-out_after 𝓛 κs mem run
      ≡ (λ kind _ _ _ _ _ _ numbers' out' _ _ _ _. fact 𝓤 (out'.exit.now ≡ left_as kind numbers'.entry.now out'.entry.now)))
  write-says κs = (refl, refl, refl, refl, refl)

  pub run-step-says : (κs : Lfts 5)
      → (run-step.ensures-value 𝓛 κs mem run
      ≡ (λ _ _ _ _ _ lines' last' line' _ _ r. fact 𝓤
      (r ≡ (step_of (open_of lines'.entry.now last'.entry.now) (says_of (read_line line'.entry.now))).joins)))
      × (run-step.ensures-before_after 𝓛 κs mem run
      ≡ (λ _ _ _ _ _ lines' last' line' before' _ _. fact 𝓤
      (before'.exit.now ≡ (step_of (open_of lines'.entry.now last'.entry.now) (says_of (read_line line'.entry.now))).before)))
      × (run-step.ensures-ends_after 𝓛 κs mem run
      ≡ (λ _ _ _ _ _ lines' last' line' _ ends' _. fact 𝓤
      (ends'.exit.now ≡ (step_of (open_of lines'.entry.now last'.entry.now) (says_of (read_line line'.entry.now))).ends)))
      × (run-step.ensures-lines_after 𝓛 κs mem run
      ≡ (λ _ _ _ _ _ lines' last' line' _ _ _. fact 𝓤
      (lines'.exit.now
      ≡ (step_of (open_of lines'.entry.now last'.entry.now) (says_of (read_line line'.entry.now))).next.lines)))
      × (run-step.ensures-last_after 𝓛 κs mem run
      ≡ (λ _ _ _ _ _ lines' last' line' _ _ _. fact 𝓤
      (last'.exit.now
      ≡ (step_of (open_of lines'.entry.now last'.entry.now) (says_of (read_line line'.entry.now))).next.last)))
  run-step-says κs = (refl, refl, refl, refl, refl)
