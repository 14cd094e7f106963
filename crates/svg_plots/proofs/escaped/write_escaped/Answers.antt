use Rattle.std.proofs.Common.{◌≡◌, ◌∙◌, ap, sym, subst, refl, List, ℕ, option_map, chars}
use Rattle.std.specs.List.{flat_map}
use Rattle.std.specs.Fmt.{HasWritten}
use Rattle.std.proofs.Output.{has_written_append}
use Rattle.std.proofs.lemmas.Iterator.{YieldsList-from_chars}
use Rattle.std.proofs.lemmas.Iterator.Consumers.{YieldsList-end}
use Rattle.std.proofs.lemmas.List.{map-id}
use Rattle.svg_plots.specs.Texts.{character_text, escaped_text}
use Rattle.svg_plots.proofs.Characters.{entity_next, plain_next}
use Rattle.svg_plots.proofs.escaped.write_escaped.Goals as goal

pub loop-character-preserved-in-Continue-1 : goal.loop-character-preserved-in-Continue-1
loop-character-preserved-in-Continue-1 g c plain =
    let took = g.W.Write.write_str_gives in
    let before = c.loop-character.invariant plain in
    let more = entity_next c.loop-character.yielded c.in-Some.character _ (sym c.entity.ensures ∙ ap (option_map (λ t. t.now)) c.in-Some-entity.is) in
    subst (λ (t : List ℕ). HasWritten took c.args.f.now t c.write_str.new.self) (sym more)
    (has_written_append took c.args.f.now _ c.loop-character.f _ c.write_str.new.self before (c.in_ok-write_str-in-Some-entity.ensures.writes before.plain refl))

pub loop-character-preserved : goal.loop-character-preserved
loop-character-preserved g c plain =
    let took = g.W.Write.write_str_gives in
    let before = c.loop-character.invariant plain in
    let more = plain_next c.loop-character.yielded c.in-Some.character (sym c.entity.ensures ∙ ap (option_map (λ t. t.now)) c.in-None-entity.is) in
    subst (λ (t : List ℕ). HasWritten took c.args.f.now t c.write_char.new.self) (sym more)
    (has_written_append took c.args.f.now _ c.loop-character.f _ c.write_char.new.self before (c.in_ok-write_char-in-None-entity.ensures.writes before.plain refl))

pub returns : goal.returns
unfolding escaped_text
returns g c plain ok =
    let took = g.W.Write.write_str_gives in
    let ends = YieldsList-end (YieldsList-from_chars c.args.text.now c.utf8.text cc) c.loop-character.yielded _ c.loop-character.yielded_by _ _ c.in-None.is c.next.ensures.steps in
    let all : c.loop-character.yielded ≡ chars c.args.text.now = sym (map-id c.loop-character.yielded) ∙ ends.0 in
    subst (λ (cs : List ℕ). HasWritten took c.args.f.now (flat_map character_text cs) c.loop-character.f) all (c.loop-character.invariant plain)
