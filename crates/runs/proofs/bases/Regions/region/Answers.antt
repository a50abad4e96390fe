use Rattle.runs.proofs.LaidRegions.{mask_few}
use Rattle.runs.proofs.bases.Regions.region.Goals as goal

pub bounds-self-mask : goal.bounds-self-mask
bounds-self-mask c = mask_few c.args.self.now.layout c.args.mask c.requires
