-- The count is tested, then the numbers.
use Rattle.std.proofs.Common.{◌≡◌, true, ◌≤◌, rules, tests, sym, ◌∙◌}
use Rattle.rules.proofs.Tests.{never, said_no}
use Rattle.accounts.proofs.Lists.{tests_range, some_most}
use Rattle.accounts.proofs.in_range.Goals as goal

pub returns-then-contains : goal.returns-then-contains
returns-then-contains c =
    let some : 1 ≤ c.args.count = search (rules, tests) in
    let most : c.args.count ≤ 32 = search (rules, tests) in
    tests_range c.args.bytes.now (λ i. (c.type_inv.bytes i).fits) c.args.start c.args.count some most c.numbers_rise.ensures

pub returns-else-contains : goal.returns-else-contains
returns-else-contains c =
    rw c.if-contains.false (said_no (λ g.
    let l = some_most c.args.bytes.now c.args.start c.args.count g in
    let k : c.contains.result ≡ true = search (rules, tests) in
    never (sym c.if-contains.false ∙ k)))
