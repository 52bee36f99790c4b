use Rattle.std.proofs.Common.{◌≡◌, ◌+◌, true, cond, [], ◌∷◌, ◌++◌, sym, refl, ap, ◌∙◌}
use Rattle.lent.specs.Stacks.{held, room}
use Rattle.record_text.specs.declared.nest.OpenTag.{OpenTag}
use Rattle.record_text.specs.Machine.{shape, blanks}
use Rattle.record_text.specs.Nest.{ups}
use Rattle.record_text.proofs.Nests.{ups_push, has_room, admitted}
use Rattle.record_text.proofs.nest.Nest.begin.Goals as goal

pub returns : goal.returns
returns c = λ q.
    let s = c.args.self.now in
    let p = c.args.place in
    let e = c.push.ensures in
    let os = held s.tags in
    let a = c.in_ok-admit.ensures in
    let o : OpenTag = record { name = c.args.name; place = p; node = s.nodes } in
    let fits : c.push.result ≡ true = has_room p s.nodes os s.held a (room s.tags) c.push.result s.ready e.test in
    let more : held c.push.new.self ≡ os ++ o ∷ [] = e.held ∙ ap (λ b. cond b (os ++ o ∷ []) os) fits in
    (admitted p s.nodes os s.held a _ _ (ap (λ u. shape (s.nodes + 1) u blanks) (sym (ap ups more ∙ ups_push os o))), refl)
