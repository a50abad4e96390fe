use Rattle.std.proofs.Common.{refl, arith}
use Rattle.runs.proofs.Stepping.{count_small, handed_few, controls_hand}
use Rattle.runs.proofs.control.Control.advance.Goals as goal

pub count-requires : goal.count-requires
count-requires c = let g = c.requires.controlled in (omega (arith, c.args.self.now.in_tree c.in-Some.mask c.in-Some.is, c.args.self.now.tree.few.1), omega (arith, count_small g.dims g.place g.adds c.args.self.now g.controls c.in-Some.mask c.in-Some.is))

pub overflow_add-self : goal.overflow_add-self
overflow_add-self c = let g = c.requires.controlled in omega (arith, handed_few g.dims g.place g.adds c.args.self.now g.controls)

pub returns-in-Some : goal.returns-in-Some
returns-in-Some c = record {
  same_tree = refl;
  same_passed = refl;
  one_handed = refl;
  controls = λ ds place adds s. controls_hand ds place adds c.args.self.now s c.in-Some.mask c.in-Some.is _ refl c.count.ensures refl refl c.next_from-self.ensures;
}
