use Rattle.std.proofs.Common.{option_copied}
use Rattle.state_words.proofs.Passing.{whole_proc}
use Rattle.state_words.proofs.comparing.is_proc_body.Goals as goal

pub returns : goal.returns
returns c =
    whole_proc c.args.s.now c.args.body.now c.counts.result (option_copied c.past_word-left.result) (option_copied c.past_option-left.result) (option_copied c.past_option-left-2.result) (option_copied c.past_option.result) c.is_end.result c.counts.ensures c.past_word-left.ensures c.past_option-left.ensures c.past_option-left-2.ensures c.past_option.ensures c.is_end.ensures
