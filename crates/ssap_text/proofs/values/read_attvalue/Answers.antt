-- A value is opened by one of two quotes, and ends at that quote.
use Rattle.std.proofs.Common.{◌≡◌, inl, inr, ℕ, List, ◌∷◌, sym, ap, subst, ◌∙◌}
use Rattle.m3_terms.proofs.Lists.{heads_same, tails_same}
use Rattle.ssap_grammar.specs.Characters.{IsQuote}
use Rattle.ssap_grammar.specs.Attribute.{ReadsValueText, ReadsAttvalue}
use Rattle.ssap_text.specs.declared.end.End.{End}
use Rattle.ssap_text.specs.declared.end.End.TheVariants.{Tag, DoubleQuote, SingleQuote}
use Rattle.ssap_text.specs.Pieces.{Opens, NoReading}
use Rattle.ssap_text.proofs.values.read_attvalue.Goals as goal

-- what is opened by a quote and ends at it is read as what follows that quote
opens_value : (quote : ℕ) → IsQuote quote → (bytes middle : List ℕ) → bytes ≡ quote ∷ middle → (end : End) × Opens end bytes middle
opens_value quote (inl q) bytes middle e = (DoubleQuote, e ∙ ap (λ b. b ∷ middle) q)
opens_value quote (inr q) bytes middle e = (SingleQuote, e ∙ ap (λ b. b ∷ middle) q)

-- where there is no reading behind the quote, there is no value
none_opened : (end : End) (bytes inner : List ℕ) → Opens end bytes inner → NoReading end inner → (value rest : List ℕ) → ¬ (ReadsAttvalue value bytes rest)
none_opened Tag bytes inner opens none value rest x = opens
none_opened DoubleQuote bytes inner opens none value rest x =
    let same = heads_same x.quote 34 x.reads.middle inner (sym x.reads.first ∙ opens) in
    let behind = tails_same x.quote 34 x.reads.middle inner (sym x.reads.first ∙ opens) in
    let y = x.reads.second in
    none value y.middle (subst (λ q. ReadsValueText value q inner y.middle) same (subst (λ b. ReadsValueText value x.quote b y.middle) behind y.first))
    (rest, y.second ∙ ap (λ q. q ∷ rest) same)
none_opened SingleQuote bytes inner opens none value rest x =
    let same = heads_same x.quote 39 x.reads.middle inner (sym x.reads.first ∙ opens) in
    let behind = tails_same x.quote 39 x.reads.middle inner (sym x.reads.first ∙ opens) in
    let y = x.reads.second in
    none value y.middle (subst (λ q. ReadsValueText value q inner y.middle) same (subst (λ b. ReadsValueText value x.quote b y.middle) behind y.first))
    (rest, y.second ∙ ap (λ q. q ∷ rest) same)

pub returns-in_default-clause-none : goal.returns-in_default-clause-none
returns-in_default-clause-none c value rest x =
    let o = opens_value x.quote x.is c.args.bytes.now x.reads.middle x.reads.first in
    c.in_default.ensures.none o.0 x.reads.middle o.1

pub returns-in_default-2-clause-none : goal.returns-in_default-2-clause-none
returns-in_default-2-clause-none c =
    let p = c.in-Some in
    none_opened p.end c.args.bytes.now p.inner.now p.ensures.found (rw c.in_default-2.is at c.in_ok-value.ensures.none)
