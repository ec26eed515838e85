-- `blif::write_fitting` meets its contract. Assumes nothing.
use mathlib.Core.Path.{ap}
use lib.ListN.{length}
use Rattle.blif.proofs.Same.{same_length, fits, over}
use Rattle.std.specs.Prelude.{Ok}
use Rattle.blif.proofs.write_fitting.Goals as goal

pub returns : goal.returns
returns c =
    let at-if1 = c.if-image-needed in
    let a = c.args in rw (fits c.requires.resolved c.requires.placed (length a.image.now) at-if1.false) (record { value = ap Ok (same_length c.requires.resolved c.requires.placed); image_after = over c.requires.resolved c.requires.placed a.image.now _ at-if1.false c.write_image.ensures })
