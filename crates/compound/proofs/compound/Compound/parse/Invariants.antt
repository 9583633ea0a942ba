use Rattle.rfc3550.proofs.Prelude.{◌-◌, length}
use Rattle.compound.proofs.Compounds.{Loop}
use Rattle.compound.proofs.compound.Compound.parse.Given as goal

abbrev pub invariant-loop-at : goal.invariant-loop-at
invariant-loop-at l = Loop l.s l.at l.n_packets l.has_cname

abbrev pub decreases-loop-at : goal.decreases-loop-at
decreases-loop-at l = length l.s - l.at
