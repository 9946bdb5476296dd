-- `tree::is_cut` meets its contract: the bytes from the command on are counted without going past the end.
use Rattle.tree.specs.ReadTreeLaws.{cut_test}
use Rattle.tree.proofs.is_cut.Goals as goal

pub returns : goal.returns
returns c = cut_test _ _ _ c.requires
