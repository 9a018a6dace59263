-- What the header's reader promises.
use Rattle.std.specs.Prelude.{◌≡◌, List, ℕ, ◌<◌}
use Rattle.rules.specs.Words.{TwoBytes}
use Rattle.rules.specs.Image.{version_of, plan_of, nodes_of, streams_of, hops_of, account_count_of}
use Rattle.rules.specs.Records.{the_plan}
use Rattle.image.specs.declared.Book.{Book}

-- the version, the plan and the counts are those of the image's header, and the count behind it
pub record HeaderOf (s : List ℕ) (b : Book) : Type 0 where
  pub version : b.version ≡ version_of s
  pub plan : the_plan b.plan ≡ plan_of s
  pub nodes : b.nodes ≡ nodes_of s
  pub streams : b.streams ≡ streams_of s
  pub hops : b.hops ≡ hops_of s
  pub accounts : b.accounts ≡ account_count_of s
  pub small_nodes : b.nodes < 256
  pub small_streams : b.streams < 256
  pub small_hops : TwoBytes b.hops
