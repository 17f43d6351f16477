use Rattle.std.proofs.Common.{rules}
use Rattle.ring.proofs.Checks.{refused_as, accepted_as}
use Rattle.ring.proofs.sizes.Sizes.new.Goals as goal

pub returns-then-not-matches-clause-meaning : goal.returns-then-not-matches-clause-meaning
returns-then-not-matches-clause-meaning c = refused_as _ _ _ _ (search rules)

pub returns-then-stations-eq0-clause-meaning : goal.returns-then-stations-eq0-clause-meaning
returns-then-stations-eq0-clause-meaning c = refused_as _ _ _ _ (search rules)

pub returns-then-limit-places-clause-meaning : goal.returns-then-limit-places-clause-meaning
returns-then-limit-places-clause-meaning c = refused_as _ _ _ _ (search rules)

pub returns-clause-meaning : goal.returns-clause-meaning
returns-clause-meaning c = accepted_as _ _ _ (search rules)
