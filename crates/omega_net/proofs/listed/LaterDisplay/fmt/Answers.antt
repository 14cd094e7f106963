use Rattle.std.proofs.Common.{◌≡◌, sym, subst, take, take_all, arith, Option, List, ℕ}
use Rattle.omega_net.specs.Texts.{later_items_text}
use Rattle.omega_net.proofs.Listing.{Shows, shows_then, shows_from, displays_from, later_items-take}
use Rattle.omega_net.proofs.listed.LaterDisplay.fmt.Goals as goal

pub loop-item-preserved : goal.loop-item-preserved
loop-item-preserved g c plain =
    let took = g.W.Write.write_str_gives in
    let text = g.T.Display.output in
    let more = later_items-take text c.args.self.now.0.now c.loop-item.item-index c.item-item.result (omega arith) c.item-item.is in
    subst (λ (o : Option (List ℕ)). Shows took c.args.f.now o c.write.new.self) (sym more)
    (shows_then took _ _ _ _ _ (c.loop-item.invariant plain) (λ still. shows_from took _ _ _ c.in_ok-write.ensures.writes still))

pub returns-clause-writes : goal.returns-clause-writes
returns-clause-writes g c =
    let took = g.W.Write.write_str_gives in
    let xs = c.args.self.now.0.now in
    let all : take c.loop-item.item-index xs ≡ xs = take_all _ _ (omega arith) in
    displays_from took _ _ _
    (λ plain. subst (λ t. Shows took c.args.f.now (later_items_text g.T.Display.output t) c.loop-item.f) all (c.loop-item.invariant plain))
