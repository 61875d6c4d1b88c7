-- The balances after one order more.
use Rattle.std.proofs.Common.{◌≡◌, ℕ, List, [], ◌∷◌, ◌++◌, refl}
use Rattle.share_bank.specs.declared.bank.Order.{Order}
use Rattle.share_bank.specs.Balances.{after, balances_after}

pub one_order_more : (balances : List ℕ) (orders : List Order) (order : Order) → balances_after balances (orders ++ order ∷ []) ≡ after (balances_after balances orders) order
one_order_more balances [] order = refl
one_order_more balances (first ∷ orders) order = one_order_more (after balances first) orders order
