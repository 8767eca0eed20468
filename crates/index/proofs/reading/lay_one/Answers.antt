-- Three numbers stored where there is room for all of them.
use mathlib.Core.Path.{refl}
use native.Mathlib.Omega.{arith}
use lib.ListN.{length-set}
use Rattle.index.specs.Answers.{numbers_of}
use Rattle.index.proofs.Threes.{three-room}
use Rattle.index.proofs.reading.lay_one.Goals as goal

pub bounds-out-place-2 : goal.bounds-out-place-2
bounds-out-place-2 c = simp length-set (omega arith)

pub bounds-out-place-3 : goal.bounds-out-place-3
bounds-out-place-3 c = simp length-set (omega arith)

pub returns : goal.returns
unfolding numbers_of
returns c = record {
  value = refl;
  puts = three-room c.args.place c.args.e.number c.args.e.offset c.args.e.length c.args.out.now c.requires.0;
}
