use Rattle.std.proofs.Common.{refl}
use Rattle.runs.proofs.Stepping.{controls_pass}
use Rattle.runs.proofs.control.Control.pass.Goals as goal

pub returns : goal.returns
returns c = record {
  same_tree = refl;
  one_passed = refl;
  same_handed = refl;
  waits = refl;
  controls = λ ds place adds s. controls_pass ds place adds c.args.self.now _ c.root.result s c.requires.idle c.requires.more c.root.ensures refl refl refl refl refl;
}
