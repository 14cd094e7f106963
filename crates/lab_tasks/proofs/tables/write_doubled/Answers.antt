use Rattle.std.proofs.Common.{◌≡◌, ◌∙◌, sym, subst, refl, List, ℕ, chars}
use Rattle.std.specs.List.{flat_map}
use Rattle.std.specs.Fmt.{HasWritten}
use Rattle.std.proofs.Output.{has_written_append}
use Rattle.std.proofs.lemmas.Iterator.{YieldsList-from_chars}
use Rattle.std.proofs.lemmas.Iterator.Consumers.{YieldsList-end}
use Rattle.std.proofs.lemmas.List.{map-id}
use Rattle.lab_tasks.specs.Tables.{doubled_char, doubled_text}
use Rattle.lab_tasks.proofs.Fields.{doubled_next}
use Rattle.lab_tasks.proofs.tables.write_doubled.Goals as goal

pub loop-character-preserved : goal.loop-character-preserved
loop-character-preserved g c plain =
    let took = g.W.Write.write_str_gives in
    let before = c.loop-character.invariant plain in
    let more = doubled_next c.loop-character.yielded c.in-Some.character in
    subst (λ (t : List ℕ). HasWritten took c.args.f.now t c.write_doubled_char.new.f) (sym more)
    (has_written_append took c.args.f.now _ c.loop-character.f _ c.write_doubled_char.new.f before (c.in_ok-write_doubled_char.ensures before.plain refl))

pub returns : goal.returns
unfolding doubled_text
returns g c plain ok =
    let took = g.W.Write.write_str_gives in
    let ends = YieldsList-end (YieldsList-from_chars c.args.text.now c.utf8.text cc) c.loop-character.yielded _ c.loop-character.yielded_by _ _ c.in-None.is c.next.ensures.steps in
    let all : c.loop-character.yielded ≡ chars c.args.text.now = sym (map-id c.loop-character.yielded) ∙ ends.0 in
    subst (λ (cs : List ℕ). HasWritten took c.args.f.now (flat_map doubled_char cs) c.loop-character.f) all (c.loop-character.invariant plain)
