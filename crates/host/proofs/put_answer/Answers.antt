-- Price, passes and raises are put one behind the other.
use Rattle.host.proofs.Bytes.{three-put}
use Rattle.host.proofs.put_answer.Goals as goal

pub returns : goal.returns
returns c = three-put c.args.res.now _ _ _ _ _ _ (cc) (cc) (cc)
