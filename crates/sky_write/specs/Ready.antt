-- The writer's lines after its tests. Nothing here is needed to know what a group is.
use Rattle.std.specs.Prelude.{◌≤◌, ℕ, ◌++◌, List, ◌≡◌, drop, length}
use Rattle.address.specs.declared.Talker.{Talker}
use Rattle.sky.specs.Table.{group_text, table_fault}
use Rattle.sky.specs.declared.Table.{Table}

-- A table without a fault, and an output with room for it.
pub record Ready (t : Talker) (r : Table) (out : List ℕ) : Type 0 where
  pub good : (table_fault r).no ≡ 0
  pub room : length (group_text t r) ≤ length out

-- All of it stands at the start, and what lies behind it stays.
pub record PutsGroup (t : Talker) (r : Table) (out : List ℕ) (answer : ℕ) (left : List ℕ) : Type 0 where
  pub answers : answer ≡ length (group_text t r)
  pub leaves : left ≡ group_text t r ++ drop (length (group_text t r)) out
