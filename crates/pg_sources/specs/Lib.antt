pub mod OneProof
pub mod Document
