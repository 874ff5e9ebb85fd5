-- Calls with one line wrong: the soundness test refuses what they leave, or a process sees a byte that it should not. With the right line each is
-- the call itself.
pub mod OneLine
pub mod Means
pub mod MeansLaws
pub mod OpenVariants
-- errors against the rules, errors against isolation, one that neither sees, the customer's story
pub mod RefusedVariants
pub mod SeenByOthers
pub mod NotEager
pub mod Story
