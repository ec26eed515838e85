-- `blif::read_outputs` meets its contract. Assumes nothing.
use Rattle.blif.proofs.Outputs.{known, cut_outputs}
use Rattle.blif.proofs.read_outputs.Goals as goal

pub read_gates-requires : goal.read_gates-requires
read_gates-requires c =
    let at-collect = c.collect-outputs in record { named = c.requires.named; outputs_known = cut_outputs (known c.requires.named.1 at-collect.ensures (c.resolve.ensures.found c.in_ok-resolve.was)) }
