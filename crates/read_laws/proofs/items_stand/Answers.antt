use Rattle.read_laws.proofs.Items.{all_items_stand}
use Rattle.read_laws.proofs.items_stand.Goals as goal

pub returns : goal.returns
returns c = all_items_stand
