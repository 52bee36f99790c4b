use Rattle.std.proofs.Common.{vec_items, rules}
use Rattle.std.proofs.lemmas.List.{with_items_is}
use Rattle.reports.proofs.Reporting.{nodes_reported, refused_reported}
use Rattle.reports.proofs.listings.report_text.Goals as goal

pub returns-in-Ok : goal.returns-in-Ok
returns-in-Ok g c =
    let x = c.args.text.now in
    nodes_reported vec_items (g.L.Listing.said c.args.listing.now x) x _ _ _ c.in-Ok.nodes c.list.result c.in-Ok.ensures (search (rules, with_items_is)) c.list.ensures

pub returns : goal.returns
returns g c =
    let x = c.args.text.now in
    refused_reported vec_items (g.L.Listing.said c.args.listing.now x) x _ _ c.in-Err.refusal c.refused.result c.in-Err.ensures (search rules) c.refused.ensures
