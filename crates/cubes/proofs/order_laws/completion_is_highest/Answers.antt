use Rattle.cubes.proofs.Completions.{completes_highest, highest_completes}
use Rattle.cubes.proofs.order_laws.completion_is_highest.Goals as goal

pub returns : goal.returns
returns c = λ ds place adds h b. (completes_highest ds place adds h b, highest_completes ds place adds h b)
