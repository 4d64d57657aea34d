use Rattle.std.proofs.Common.{Some, refl, subst}
use Rattle.std.specs.Fmt.{DisplaysOnOk}
use Rattle.rendering.proofs.Shown.{shown_all}
use Rattle.report.specs.Refused.{refused_shown}
use Rattle.report.proofs.Written.{shown_below}
use Rattle.report.proofs.rendered.ShownDisplay.fmt.Goals as goal

pub returns-clause-writes : goal.returns-clause-writes
returns-clause-writes g c =
    let text = g.R.Row.text in
    let refused = shown_all (λ x. Some (refused_shown x)) refused_shown (λ x. refl) c.args.self.now.refused.now in
    let rows = shown_all g.R.Display.output text g.met.R.Row.shows c.args.self.now.rows.now in
    subst (λ o. DisplaysOnOk g.W.Write.write_str_gives c.args.f.now c.write.result o c.write.new.self)
    (shown_below _ _ _ _ c.heading.result.now g.R.Row.heading refused rows c.heading.ensures)
    c.write.ensures.writes
