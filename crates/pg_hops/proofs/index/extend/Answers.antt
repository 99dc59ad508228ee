use Rattle.std.proofs.Common.{rules, ◌≡◌, ◌∙◌, sym, subst, List, ℕ, length, vec_len}
use Rattle.pg_hops.proofs.RowHops.{one_row}
use Rattle.pg_hops.specs.Index.{AreHops, AreRowHops}
use Rattle.pg_hops.specs.declared.index.Row.{Row}
use Rattle.pg_hops.proofs.index.extend.Goals as goal

pub more-preserved : goal.more-preserved
more-preserved c =
    let long : vec_len c.more.rows ≡ length c.more.rows.items = search rules in
    record {
      hops = λ are. subst (λ (rows : List Row). AreHops c.args.galley.now.blocks c.args.style.now.maxdepth rows)
          (sym c.in_ok-push.ensures.items)
          (one_row c.args.galley.now.blocks c.args.style.now.maxdepth c.more.rows.items c.with_leap-kept.result
          (c.more.invariant.hops are)
          (subst (λ (n : ℕ). AreRowHops c.args.galley.now.blocks c.args.style.now.maxdepth n c.with_leap-kept.result)
          (c.len-in-more-4.ensures ∙ long) c.with_leap-kept.ensures));
    }
