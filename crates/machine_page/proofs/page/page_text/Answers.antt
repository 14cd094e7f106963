use Rattle.machine_page.proofs.Lines.{three_parts}
use Rattle.machine_page.proofs.page.page_text.Goals as goal

pub returns : goal.returns
returns c = three_parts _ _ _ _ _ _ c.in_ok-text.ensures.ok c.in_ok-add_data.ensures c.in_ok-push_str.ensures.bytes
