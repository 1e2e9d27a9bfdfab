-- Chains and their corners.
pub mod ChainCode
pub mod ChainForm
pub mod Bytes
pub mod Followed
pub mod Following
pub mod ChainParts
pub mod ChainTest
pub mod FormToChain
pub mod ChainToForm
pub mod Callers
