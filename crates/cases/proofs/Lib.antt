mod Computed
mod Joined
