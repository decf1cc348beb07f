-- Laws of the starts rule.
pub mod StartsLaws
pub mod OnSidesLaws
pub mod UnpairingLaws
