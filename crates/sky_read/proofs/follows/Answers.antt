-- `follows` meets its contract: line 1 by its total, a later one by what line 1 said.
use Rattle.std.proofs.Common.{rules}
use Rattle.sky.specs.Group.{follows, same_talker}
use Rattle.sky_read.proofs.follows.Goals as goal

pub returns-then-v-lines_for : goal.returns-then-v-lines_for
unfolding follows
returns-then-v-lines_for c = search rules

pub returns-else-v-lines_for : goal.returns-else-v-lines_for
unfolding follows
returns-else-v-lines_for c = search rules

pub returns-then-first-v-2 : goal.returns-then-first-v-2
unfolding follows same_talker
returns-then-first-v-2 c = search rules

pub returns-else-first-v-2 : goal.returns-else-first-v-2
unfolding follows same_talker
returns-else-first-v-2 c = search rules
