use Rattle.serial_order.proofs.Timely.{orders_keep as law}
use Rattle.serial_order.proofs.laws.orders_keep_real_time.Goals as goal

pub returns : goal.returns
returns c = law
